-- Consistent queues: within their capacities, in rank order, each record in the queue of its side, and no bid at or above an offer.
use Rattle.std.proofs.Common.{◌≡◌, ℕ, ◌<◌, ◌≤◌, false, leb, List, [], ◌∷◌, length, set, Some, sym, refl, ap, subst, arith}
use Rattle.std.specs.List.{remove, AllByRecursion, slice_get}
use Rattle.std.proofs.lemmas.Bool.{leb-false, lt-leb}
use Rattle.std.proofs.lemmas.List.{length-set}
use Rattle.std.proofs.ByRecursion.{All-weaker}
use Rattle.std.proofs.lemmas.Bool.Decides.{nat_tests}
use Rattle.orders.specs.declared.side.Side.{Side}
use Rattle.orders.specs.declared.side.Side.TheVariants.{Buy, Sell}
use Rattle.orders.specs.declared.price.Price.{Price}
use Rattle.orders.specs.declared.price.TheConstants.{HIGHEST}
use Rattle.orders.specs.declared.order.Order.{Order}
use Rattle.orders.specs.declared.order.Stop.{Stop}
use Rattle.orders.specs.declared.rank.Rank.{Rank}
use Rattle.orders.specs.Prices.{level}
use Rattle.orders.specs.Ranks.{ranks_ahead, order_key, stop_key}
use Rattle.orders.specs.Sides.{opposite}
use Rattle.orders.specs.Lots.{within_limit}
use Rattle.books.specs.RankedLists.{put_by_rank}
use Rattle.books.specs.declared.queue.Queue.{Queue}
use Rattle.books.specs.declared.queue.Queue.TheVariants.{Orders, Stops}
use Rattle.books.specs.declared.queue.Record.TheVariants.{Standing, Waiting}
use Rattle.books.specs.Model.{Both, Queues, at, with_at, with_stands, with_waits, rank_of, stop_rank_of, count, capacity, inserted, taken, record_set}
use Rattle.laws.specs.Quiescence.{Uncrossed}
use Rattle.laws.proofs.SortedLists.{Sorted, length_removed, all_removed, all_nth, sorted_removed, length_put_in, all_put_in, sorted_put_in, all_rewritten, sorted_set}

-- a price is at most the highest that an order may have, so it fits the key of a rank (rules 2)
abbrev pub InPriceRange : Price → Type 0
InPriceRange p = level p ≤ HIGHEST

-- prices of one level are one price
pub price_same : (p q : Price) → level p ≡ level q → p ≡ q
price_same p q e = ap as_price e
  where
    as_price : ℕ → Price
    as_price n = record { hundredths = n }

-- an order, and a stop, of this side, whose prices fit a rank
abbrev pub OnSide : Side → Order → Type 0
OnSide s o = (o.side ≡ s) × InPriceRange o.price

abbrev pub StopOnSide : Side → Stop → Type 0
StopOnSide s x = (x.order.side ≡ s) × InPriceRange x.order.price × InPriceRange x.trigger

-- what holds of the queues at all times
pub record ConsistentQueues (q : Queues) : Type 0 where
  pub bounded : (n : Queue) → count n q ≤ capacity n q
  pub sorted : (s : Side) → Sorted rank_of (at s q.stands)
  pub stops_sorted : (s : Side) → Sorted stop_rank_of (at s q.waits)
  pub on_side : (s : Side) → AllByRecursion (OnSide s) (at s q.stands)
  pub stops_on_side : (s : Side) → AllByRecursion (StopOnSide s) (at s q.waits)
  pub uncrossed : Uncrossed q.stands

-- what holds of a changed side and of the other as it was holds of both
pub at_with : {A : Type 0} (P : Side → A → Type 0) (s : Side) (a : A) (b : Both A) → P s a → ((t : Side) → P t (at t b)) → (t : Side) → P t (at t (with_at s a b))
at_with P Buy a b h k Buy = h
at_with P Buy a b h k Sell = k Sell
at_with P Sell a b h k Buy = k Buy
at_with P Sell a b h k Sell = h

pub at_same_side : {A : Type 0} (s : Side) (a : A) (b : Both A) → at s (with_at s a b) ≡ a
at_same_side Buy a b = refl
at_same_side Sell a b = refl

-- no opposite order is within the price of an order of this side
abbrev pub CrossesNone : Side → Both (List Order) → Order → Type 0
CrossesNone Buy b o = AllByRecursion (λ (y : Order). level o.price < level y.price) b.sell
CrossesNone Sell b o = AllByRecursion (λ (x : Order). level x.price < level o.price) b.buy

all_any : {X : Type 0} (P : X → Type 0) → ((x : X) → P x) → (l : List X) → AllByRecursion P l
all_any P h [] = tt
all_any P h (x ∷ l) = (h x, all_any P h l)

all_both : {X : Type 0} (P Q : X → Type 0) (l : List X) → AllByRecursion P l → AllByRecursion Q l → AllByRecursion (λ x. P x × Q x) l
all_both P Q [] h k = tt
all_both P Q (x ∷ l) h k = ((h.0, k.0), all_both P Q l h.1 k.1)

all_flip : {X Y : Type 0} (R : X → Y → Type 0) (k : List X) (l : List Y) → AllByRecursion (λ x. AllByRecursion (R x) l) k → AllByRecursion (λ y. AllByRecursion (λ x. R x y) k) l
all_flip R [] l h = all_any (λ y. Unit {0}) (λ _. tt) l
all_flip R (x ∷ k) l h = all_both (R x) (λ y. AllByRecursion (λ x. R x y) k) l h.0 (all_flip R k l h.1)

all_cross_none : (s : Side) (b : Both (List Order)) → Uncrossed b → AllByRecursion (CrossesNone s b) (at s b)
all_cross_none Buy b h = h
all_cross_none Sell b h = all_flip (λ (x y : Order). level x.price < level y.price) b.buy b.sell h

uncrossed_with : (s : Side) (l : List Order) (b : Both (List Order)) → AllByRecursion (CrossesNone s b) l → Uncrossed (with_at s l b)
uncrossed_with Buy l b h = h
uncrossed_with Sell l b h = all_flip (λ (y x : Order). level x.price < level y.price) l b.buy h

queues_stands : (s : Side) (l : List Order) (q : Queues) → ConsistentQueues q → length l ≤ at s q.standing_capacity → Sorted rank_of l → AllByRecursion (OnSide s) l →
    AllByRecursion (CrossesNone s q.stands) l → ConsistentQueues (with_stands s l q)
queues_stands s l q g n o d c = record {
  bounded = elim [ Orders t ↦ at_with (λ t l. length l ≤ at t q.standing_capacity) s l q.stands n (λ t. g.bounded (Orders t)) t | Stops t ↦ g.bounded (Stops t) ];
  sorted = at_with (λ t l. Sorted rank_of l) s l q.stands o g.sorted;
  stops_sorted = g.stops_sorted;
  on_side = at_with (λ t l. AllByRecursion (OnSide t) l) s l q.stands d g.on_side;
  stops_on_side = g.stops_on_side;
  uncrossed = uncrossed_with s l q.stands c;
}

queues_waits : (s : Side) (l : List Stop) (q : Queues) → ConsistentQueues q → length l ≤ at s q.waiting_capacity → Sorted stop_rank_of l → AllByRecursion (StopOnSide s) l →
    ConsistentQueues (with_waits s l q)
queues_waits s l q g n o d = record {
  bounded = elim [ Orders t ↦ g.bounded (Orders t) | Stops t ↦ at_with (λ t l. length l ≤ at t q.waiting_capacity) s l q.waits n (λ t. g.bounded (Stops t)) t ];
  sorted = g.sorted;
  stops_sorted = at_with (λ t l. Sorted stop_rank_of l) s l q.waits o g.stops_sorted;
  on_side = g.on_side;
  stops_on_side = at_with (λ t l. AllByRecursion (StopOnSide t) l) s l q.waits d g.stops_on_side;
  uncrossed = g.uncrossed;
}

-- the queues after a take
pub queues_removed : (s : Side) (i : ℕ) (o : Order) (q : Queues) → slice_get (at s q.stands) i ≡ Some o → ConsistentQueues q → ConsistentQueues (taken (Orders s) i q)
queues_removed s i o q e g =
    queues_stands s (remove (at s q.stands) i) q g (omega (arith, length_removed (at s q.stands) i o e, g.bounded (Orders s)))
    (sorted_removed rank_of (at s q.stands) i (g.sorted s)) (all_removed (OnSide s) (at s q.stands) i (g.on_side s))
    (all_removed (CrossesNone s q.stands) (at s q.stands) i (all_cross_none s q.stands g.uncrossed))

pub queues_stop_removed : (s : Side) (i : ℕ) (x : Stop) (q : Queues) → slice_get (at s q.waits) i ≡ Some x → ConsistentQueues q → ConsistentQueues (taken (Stops s) i q)
queues_stop_removed s i x q e g =
    queues_waits s (remove (at s q.waits) i) q g (omega (arith, length_removed (at s q.waits) i x e, g.bounded (Stops s)))
    (sorted_removed stop_rank_of (at s q.waits) i (g.stops_sorted s)) (all_removed (StopOnSide s) (at s q.waits) i (g.stops_on_side s))

-- the queues after a put
pub queues_put : (o : Order) (q : Queues) → count (Orders o.side) q < capacity (Orders o.side) q → InPriceRange o.price → CrossesNone o.side q.stands o → ConsistentQueues q →
    ConsistentQueues (inserted (Standing o) q)
queues_put o q n p c g =
    let s : Side = o.side in
    let l : List Order = at s q.stands in
    queues_stands s (put_by_rank rank_of o l) q g (omega (arith, length_put_in rank_of o l)) (sorted_put_in rank_of o l (g.sorted s)) (all_put_in rank_of (OnSide s) o l (refl, p) (g.on_side s))
    (all_put_in rank_of (CrossesNone s q.stands) o l c (all_cross_none s q.stands g.uncrossed))

pub queues_stop_put : (x : Stop) (q : Queues) → count (Stops x.order.side) q < capacity (Stops x.order.side) q → InPriceRange x.order.price → InPriceRange x.trigger →
    ConsistentQueues q → ConsistentQueues (inserted (Waiting x) q)
queues_stop_put x q n p t g =
    let s : Side = x.order.side in
    let l : List Stop = at s q.waits in
    queues_waits s (put_by_rank stop_rank_of x l) q g (omega (arith, length_put_in stop_rank_of x l)) (sorted_put_in stop_rank_of x l (g.stops_sorted s))
    (all_put_in stop_rank_of (StopOnSide s) x l (refl, p, t) (g.stops_on_side s))

-- an order may be rewritten as another of the same side, price, turn and number
pub record SameRank (x o : Order) : Type 0 where
  pub side : o.side ≡ x.side
  pub price : o.price ≡ x.price
  pub turn : o.turn ≡ x.turn
  pub number : o.number ≡ x.number

pub same_order_rank : (x o : Order) → SameRank x o → rank_of o ≡ rank_of x
same_order_rank x o h = rw (h.side, h.price, h.turn, h.number) refl

pub same_crosses_none : (s : Side) (b : Both (List Order)) (x o : Order) → o.price ≡ x.price → CrossesNone s b x → CrossesNone s b o
same_crosses_none Buy b x o e h = subst (λ p. AllByRecursion (λ (y : Order). level p < level y.price) b.sell) (sym e) h
same_crosses_none Sell b x o e h = subst (λ p. AllByRecursion (λ (y : Order). level y.price < level p) b.buy) (sym e) h

pub queues_set : (i : ℕ) (x o : Order) (q : Queues) → slice_get (at o.side q.stands) i ≡ Some x → SameRank x o → ConsistentQueues q → ConsistentQueues (record_set i (Standing o) q)
queues_set i x o q e h g =
    let s : Side = o.side in
    let l : List Order = at s q.stands in
    let d = all_nth (OnSide s) l i x e (g.on_side s) in
    let c = all_cross_none s q.stands g.uncrossed in
    queues_stands s (set l i o) q g (omega (arith, length-set l i o, g.bounded (Orders s))) (sorted_set rank_of l i x o e (same_order_rank x o h) (g.sorted s))
    (all_rewritten (OnSide s) l i o (refl, subst InPriceRange (sym h.price) d.1) (g.on_side s))
    (all_rewritten (CrossesNone s q.stands) l i o (same_crosses_none s q.stands x o h.price (all_nth (CrossesNone s q.stands) l i x e c)) c)

-- a standing order crosses no opposite one, also when its own queue changes
pub nth_crosses_none : (s : Side) (i : ℕ) (o : Order) (q : Queues) → slice_get (at s q.stands) i ≡ Some o → ConsistentQueues q → CrossesNone s q.stands o
nth_crosses_none s i o q e g = all_nth (CrossesNone s q.stands) (at s q.stands) i o e (all_cross_none s q.stands g.uncrossed)

pub crosses_none_own : (s : Side) (l : List Order) (b : Both (List Order)) (o : Order) → CrossesNone s b o → CrossesNone s (with_at s l b) o
crosses_none_own Buy l b o h = h
crosses_none_own Sell l b o h = h

-- none of these orders is within the limit
abbrev pub NoneWithinLimit : Side → Price → List Order → Type 0
NoneWithinLimit s limit l = AllByRecursion (λ (a : Order). within_limit s limit a.price ≡ false) l

pub none_within_crosses_none : (o : Order) (s : Side) (b : Both (List Order)) → NoneWithinLimit s o.price (at (opposite s) b) → CrossesNone s b o
none_within_crosses_none o Buy b h = All-weaker (λ (a : Order). leb (level a.price) (level o.price) ≡ false) (λ (a : Order). level o.price < level a.price)
    (λ a. leb-false (level a.price) (level o.price)) b.sell h
none_within_crosses_none o Sell b h = All-weaker (λ (a : Order). leb (level o.price) (level a.price) ≡ false) (λ (a : Order). level a.price < level o.price)
    (λ a. leb-false (level o.price) (level a.price)) b.buy h

-- what does not rank ahead of an order is priced no better
pub ranks_lower : (a b : Rank) → ranks_ahead b a ≡ false → a.key ≤ b.key
ranks_lower a b h = grind (arith, nat_tests)

no_better : (s : Side) (limit p p' : Price) (t n t' n' : ℕ) → InPriceRange p → InPriceRange p' → within_limit s limit p ≡ false →
    ranks_ahead (record { key = order_key (opposite s) p'; turn = t'; number = n' }) (record { key = order_key (opposite s) p; turn = t; number = n }) ≡ false →
    within_limit s limit p' ≡ false
no_better Buy limit p p' t n t' n' l l' h k =
    let a = ranks_lower (record { key = level p; turn = t; number = n }) (record { key = level p'; turn = t'; number = n' }) k in
    lt-leb (level p') (level limit) (omega (arith, leb-false (level p) (level limit) h))
no_better Sell limit p p' t n t' n' l l' h k =
    let a = ranks_lower (record { key = order_key Buy p; turn = t; number = n }) (record { key = order_key Buy p'; turn = t'; number = n' }) k in
    lt-leb (level limit) (level p') (omega (arith, leb-false (level limit) (level p) h))

-- the same of stops: buy stops rank by lower trigger, sell stops by higher
pub no_riper : (s : Side) (last p p' : Price) (t n t' n' : ℕ) → InPriceRange p → InPriceRange p' → within_limit s last p ≡ false →
    ranks_ahead (record { key = stop_key s p'; turn = t'; number = n' }) (record { key = stop_key s p; turn = t; number = n }) ≡ false → within_limit s last p' ≡ false
no_riper Buy last p p' t n t' n' l l' h k = no_better Buy last p p' t n t' n' l l' h k
no_riper Sell last p p' t n t' n' l l' h k = no_better Sell last p p' t n t' n' l l' h k

pub none_within_limit : (s : Side) (limit : Price) (r : Order) (rest : List Order) → Sorted rank_of (r ∷ rest) → AllByRecursion (OnSide (opposite s)) (r ∷ rest) →
    within_limit s limit r.price ≡ false → NoneWithinLimit s limit (r ∷ rest)
none_within_limit s limit r rest h d e = (
  e,
  All-weaker (λ a. (ranks_ahead (rank_of a) (rank_of r) ≡ false) × OnSide (opposite s) a) (λ a. within_limit s limit a.price ≡ false)
      (λ a k. no_better s limit r.price a.price r.turn r.number a.turn a.number d.0.1 k.1.1 e
      (subst (λ z. ranks_ahead (record { key = order_key z a.price; turn = a.turn; number = a.number })
      (record { key = order_key (opposite s) r.price; turn = r.turn; number = r.number }) ≡ false) k.1.0
      (subst (λ z. ranks_ahead (rank_of a) (record { key = order_key z r.price; turn = r.turn; number = r.number }) ≡ false) d.0.0 k.0))) rest
      (all_both (λ a. ranks_ahead (rank_of a) (rank_of r) ≡ false) (OnSide (opposite s)) rest h.0 d.1),
)
