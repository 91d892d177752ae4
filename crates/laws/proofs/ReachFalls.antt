-- Reach falls by what is traded, and ends where trading ends.
use Rattle.std.proofs.Common.{◌≡◌, ℕ, zero, suc, ◌+◌, ◌-◌, ◌<◌, ◌≤◌, Bool, true, false, cond, not, eqb, ◌⊎◌, List, [], ◌∷◌, Some, None, Option, sym, refl, ap, ◌∙◌, subst, inl, inr, ⊎_elim, arith}
use Rattle.std.specs.List.{AllByRecursion}
use Rattle.std.proofs.lemmas.Bool.{cond_both, cond-true, cond-false, and_left, and_right, eqb-true, eqb-false, eq-eqb, lt-ltb, cases_eq, and_from, not-true, not-false}
use Rattle.std.proofs.lemmas.Bool.Decides.{nat_tests}
use Rattle.orders.specs.declared.side.Side.{Side}
use Rattle.orders.specs.declared.side.Side.TheVariants.{Buy, Sell}
use Rattle.orders.specs.declared.price.Price.{Price}
use Rattle.orders.specs.declared.order.Order.{Order}
use Rattle.orders.specs.declared.row.OrderRow.{OrderRow}
use Rattle.orders.specs.declared.rank.Rank.{Rank}
use Rattle.orders.specs.Prices.{level, same_price}
use Rattle.orders.specs.Ranks.{ranks_ahead, order_key}
use Rattle.orders.specs.Sides.{opposite}
use Rattle.orders.specs.Lots.{order_refilled, within_limit, same_investor}
use Rattle.books.specs.RankedLists.{put_by_rank}
use Rattle.books.specs.Model.{rank_of}
use Rattle.matching.specs.Running.{total, parts}
use Rattle.matching.specs.Reach.{better, own, own_price, counts, counted_open_lots, shown_ahead, reach_by, reach}
use Rattle.matching.proofs.PartsFall.{parts_least, parts_refilled}
use Rattle.laws.specs.Reaching.{front_traded, unlimited_trade}
use Rattle.laws.proofs.SortedLists.{Sorted, put_in_cons, total_put_in, all_put_in, sorted_put_in}
use Rattle.laws.proofs.ConsistentQueues.{InPriceRange, OnSide, NoneWithinLimit, none_within_limit, price_same, ranks_lower}
use Rattle.laws.proofs.RowsInBounds.{refilled_row}
use Rattle.laws.proofs.FirstPrices.{none_better, better_itself}

-- the counted open lots are a sum
open_total : (o : Order) (m : Option Price) (l : List Order) → counted_open_lots o m l ≡ total (λ (r : Order). cond (counts o m r) r.open_lots 0) l
open_total o m [] = refl
open_total o m (r ∷ l) = ap (λ n. cond (counts o m r) r.open_lots 0 + n) (open_total o m l)

open_put : (o : Order) (m : Option Price) (x : Order) (l : List Order) → counted_open_lots o m (put_by_rank rank_of x l) ≡ cond (counts o m x) x.open_lots 0 + counted_open_lots o m l
open_put o m x l =
    open_total o m (put_by_rank rank_of x l) ∙ (total_put_in rank_of (λ (r : Order). cond (counts o m r) r.open_lots 0) x l ∙ ap (λ n. cond (counts o m x) x.open_lots 0 + n) (sym (open_total o m l)))

none_open : (o : Order) (m : Option Price) (l : List Order) → AllByRecursion (λ r. counts o m r ≡ false) l → counted_open_lots o m l ≡ 0
none_open o m [] h = refl
none_open o m (r ∷ l) h = let z : cond (counts o m r) r.open_lots 0 ≡ 0 = cond-false (counts o m r) r.open_lots 0 h.0 in omega (arith, none_open o m l h.1)

-- no order is within the limit
no_own : (o : Order) (l : List Order) → NoneWithinLimit o.side o.price l → own_price o l ≡ None
no_own o [] h = refl
no_own o (r ∷ l) h = cond-false (own o r) (Some r.price) (own_price o l) (and_right (same_investor o r) (within_limit o.side o.price r.price) h.0) ∙ no_own o l h.1

pub reach_none_within : (o : Order) (l : List Order) → NoneWithinLimit o.side o.price l → reach o l ≡ 0
reach_none_within o l h = ap (λ m. reach_by m o l) (no_own o l h) ∙ none_open o None l h

-- the first order is of the own investor
pub reach_own : (o r : Order) (l : List Order) → own o r ≡ true → Sorted rank_of (r ∷ l) → AllByRecursion (OnSide (opposite o.side)) (r ∷ l) → reach o (r ∷ l) ≡ 0
reach_own o r l e h d =
    let p : Price = r.price in
    let z : Side = opposite o.side in
    let a : counted_open_lots o (Some p) (r ∷ l) ≡ 0 = none_open o (Some p) (r ∷ l) (better_itself z p, none_better z r l d.0 d.1 h.0) in
    let b : shown_ahead o p (r ∷ l) ≡ 0 = cond-true (own o r) 0 (cond (same_price r.price p) r.shown 0 + shown_ahead o p l) e in
    ap (λ m. reach_by m o (r ∷ l)) (cond-true (own o r) (Some p) (own_price o l) e) ∙ (let w : counted_open_lots o (Some p) (r ∷ l) + shown_ahead o p (r ∷ l) ≡ 0 = omega arith in w)

-- a put of an order of another investor

own_put : (o x : Order) (l : List Order) → own o x ≡ false → own_price o (put_by_rank rank_of x l) ≡ own_price o l
own_put o x [] e = cond-false (own o x) (Some x.price) None e
own_put o x (y ∷ l) e =
    ap (own_price o) (put_in_cons rank_of x y l)
    ∙ cond_both (ranks_ahead (rank_of x) (rank_of y)) (x ∷ y ∷ l) (y ∷ put_by_rank rank_of x l) (λ k. own_price o k ≡ own_price o (y ∷ l))
    (λ _. cond-false (own o x) (Some x.price) (own_price o (y ∷ l)) e)
    (λ _. ap (λ m. cond (own o y) (Some y.price) m) (own_put o x l e))

shown_apart : (o x : Order) (p : Price) (l : List Order) → own o x ≡ false → same_price x.price p ≡ false → shown_ahead o p (put_by_rank rank_of x l) ≡ shown_ahead o p l
shown_apart o x p [] e k = cond-false (own o x) 0 (cond (same_price x.price p) x.shown 0 + 0) e ∙
    (let z : cond (same_price x.price p) x.shown 0 ≡ 0 = cond-false (same_price x.price p) x.shown 0 k in let w : cond (same_price x.price p) x.shown 0 + 0 ≡ 0 = omega arith in w)
shown_apart o x p (y ∷ l) e k =
    ap (shown_ahead o p) (put_in_cons rank_of x y l)
    ∙ cond_both (ranks_ahead (rank_of x) (rank_of y)) (x ∷ y ∷ l) (y ∷ put_by_rank rank_of x l) (λ m. shown_ahead o p m ≡ shown_ahead o p (y ∷ l))
    (λ _. cond-false (own o x) 0 (cond (same_price x.price p) x.shown 0 + shown_ahead o p (y ∷ l)) e
    ∙ (let z : cond (same_price x.price p) x.shown 0 ≡ 0 = cond-false (same_price x.price p) x.shown 0 k in let w : cond (same_price x.price p)
    x.shown 0 + shown_ahead o p (y ∷ l) ≡ shown_ahead o p (y ∷ l) = omega arith in w))
    (λ _. ap (λ n. cond (own o y) 0 (cond (same_price y.price p) y.shown 0 + n)) (shown_apart o x p l e k))

-- an order ahead of the first of the own investor is priced no worse
own_behind : (z : Side) (o : Order) (p : Price) (k : Rank) (l : List Order) → own_price o l ≡ Some p → AllByRecursion (OnSide z) l →
    AllByRecursion (λ y. ranks_ahead (rank_of y) k ≡ false) l → k.key ≤ order_key z p
own_behind z o p k [] e d h = let u : ◌≡◌ {A = ℕ} 0 1 = cc in absurd (omega arith)
own_behind z o p k (y ∷ l) e d h = go (own o y) e (λ q. own_behind z o p k l q d.1 h.1)
  where
    here : y.price ≡ p → k.key ≤ order_key z p
    here q = subst (λ (u : Price). k.key ≤ order_key z u) q (subst (λ (s : Side). k.key ≤ order_key s y.price) d.0.0 (ranks_lower k (rank_of y) h.0))

    go : (b : Bool) → cond b (Some y.price) (own_price o l) ≡ Some p → (own_price o l ≡ Some p → k.key ≤ order_key z p) → k.key ≤ order_key z p
    go true q ih = here (let u : y.price ≡ p = cc in u)
    go false q ih = ih q

behind_all : (a b : Rank) → b.key ≤ a.key → b.turn < a.turn → ranks_ahead a b ≡ false
behind_all a b h k = grind (arith, nat_tests)

-- an order that is put behind its price is put behind the first of the own investor there
shown_behind : (z : Side) (o x : Order) (p : Price) (l : List Order) → own_price o l ≡ Some p → Sorted rank_of l → AllByRecursion (OnSide z) l →
    AllByRecursion (λ (y : Order). y.turn < x.turn) l → order_key x.side x.price ≡ order_key z p →
    shown_ahead o p (put_by_rank rank_of x l) ≡ shown_ahead o p l
shown_behind z o x p [] e h d t k = let u : ◌≡◌ {A = ℕ} 0 1 = cc in absurd (omega arith)
shown_behind z o x p (y ∷ l) e h d t k = go (own o y) refl e (shown_behind z o x p l)
  where
    lower : order_key y.side y.price ≤ order_key z p → ranks_ahead (rank_of x) (rank_of y) ≡ false
    lower q = behind_all (rank_of x) (rank_of y) (omega arith) t.0

    passes : ranks_ahead (rank_of x) (rank_of y) ≡ false → put_by_rank rank_of x (y ∷ l) ≡ y ∷ put_by_rank rank_of x l
    passes q = put_in_cons rank_of x y l ∙ cond-false (ranks_ahead (rank_of x) (rank_of y)) (x ∷ y ∷ l) (y ∷ put_by_rank rank_of x l) q

    own_key : y.price ≡ p → order_key y.side y.price ≤ order_key z p
    own_key q = subst (λ (u : Price). order_key y.side y.price ≤ order_key z u) q (subst (λ (s : Side). order_key y.side y.price ≤ order_key s y.price) d.0.0 (omega arith))

    go : (b : Bool) → own o y ≡ b → cond b (Some y.price) (own_price o l) ≡ Some p →
        (own_price o l ≡ Some p → Sorted rank_of l → AllByRecursion (OnSide z) l → AllByRecursion (λ (y : Order). y.turn < x.turn) l → order_key x.side
        x.price ≡ order_key z p → shown_ahead o p (put_by_rank rank_of x l) ≡ shown_ahead o p l) →
        shown_ahead o p (put_by_rank rank_of x (y ∷ l)) ≡ shown_ahead o p (y ∷ l)
    go true w q ih =
        let b = lower (own_key (let u : y.price ≡ p = cc in u)) in
        ap (shown_ahead o p) (passes b)
        ∙ (cond-true (own o y) 0 (cond (same_price y.price p) y.shown 0 + shown_ahead o p (put_by_rank rank_of x l)) w ∙ sym
        (cond-true (own o y) 0 (cond (same_price y.price p) y.shown 0 + shown_ahead o p l) w))
    go false w q ih =
        let b = lower (own_behind z o p (rank_of y) l q d.1 h.0) in
        ap (shown_ahead o p) (passes b) ∙ ap (λ n. cond (own o y) 0 (cond (same_price y.price p) y.shown 0 + n)) (ih q h.1 d.1 t.1 k)

-- of two keys, the lower or an equal one
better_or_same : (s : Side) (p q : Price) → InPriceRange p → InPriceRange q → order_key s p ≤ order_key s q → (better s p q ≡ true) ⊎ (level p ≡ level q)
better_or_same Buy p q lp lq h = ⊎_elim (λ (e : level p ≡ level q). inr e) (λ (e : level p ≡ level q → ⊥). inl (lt-ltb (level q) (level p) (omega arith))) (cases_eq (level p) (level q))
better_or_same Sell p q lp lq h = ⊎_elim (λ (e : level p ≡ level q). inr e) (λ (e : level p ≡ level q → ⊥). inl (lt-ltb (level p) (level q) (omega arith))) (cases_eq (level p) (level q))

better_not_same : (s : Side) (p q : Price) → better s p q ≡ true → same_price p q ≡ false
better_not_same Buy p q h = grind (arith, nat_tests)
better_not_same Sell p q h = grind (arith, nat_tests)

own_in_range : (z : Side) (o : Order) (p : Price) (l : List Order) → own_price o l ≡ Some p → AllByRecursion (OnSide z) l → InPriceRange p
own_in_range z o p [] e d = let u : ◌≡◌ {A = ℕ} 0 1 = cc in absurd (omega arith)
own_in_range z o p (y ∷ l) e d = go (own o y) e (λ q. own_in_range z o p l q d.1)
  where
    go : (b : Bool) → cond b (Some y.price) (own_price o l) ≡ Some p → (own_price o l ≡ Some p → InPriceRange p) → InPriceRange p
    go true q ih = subst InPriceRange (let u : y.price ≡ p = cc in u) d.0.1
    go false q ih = ih q

-- what is traded with the first comes off the reach

module _ (o r : Order) (l : List Order) (turn : ℕ) (w : within_limit o.side o.price r.price ≡ true) (n : same_investor o r ≡ false)
    (h : Sorted rank_of (r ∷ l)) (d : AllByRecursion (OnSide (opposite o.side)) (r ∷ l)) (t : AllByRecursion (λ (y : Order). y.turn < turn) l) where
  not_own : own o r ≡ false
  not_own = and_left (same_investor o r) (within_limit o.side o.price r.price) n

  first_is : own_price o (r ∷ l) ≡ own_price o l
  first_is = cond-false (own o r) (Some r.price) (own_price o l) not_own

  ahead_is : (p : Price) → shown_ahead o p (r ∷ l) ≡ cond (same_price r.price p) r.shown 0 + shown_ahead o p l
  ahead_is p = cond-false (own o r) 0 (cond (same_price r.price p) r.shown 0 + shown_ahead o p l) not_own

  -- all that it shows is all that it has open
  reach_by_filled : (m : Option Price) → own_price o l ≡ m → r.open_lots ≡ r.shown → reach_by m o l + r.shown ≡ reach_by m o (r ∷ l)
  reach_by_filled None e k = let a : cond (within_limit o.side o.price r.price) r.open_lots 0 ≡ r.open_lots = cond-true (within_limit o.side o.price r.price) r.open_lots 0 w in omega arith
  reach_by_filled (Some p) e k = ⊎_elim
      (λ (b : better (opposite o.side) r.price p ≡ true).
      let a : cond (counts o (Some p) r) r.open_lots 0 ≡ r.open_lots = cond-true (counts o (Some p) r) r.open_lots 0 b in
      let c : cond (same_price r.price p) r.shown 0 ≡ 0 = cond-false (same_price r.price p) r.shown 0 (better_not_same (opposite o.side) r.price p b) in
      omega (arith, ahead_is p))
      (λ (b : level r.price ≡ level p).
      let a : cond (counts o (Some p) r) r.open_lots 0 ≡ 0 = cond-false (counts o (Some p) r) r.open_lots 0
      (subst (λ (u : Price). better (opposite o.side) u p ≡ false) (sym (price_same r.price p b)) (better_itself (opposite o.side) p)) in
      let c : cond (same_price r.price p) r.shown 0 ≡ r.shown = cond-true (same_price r.price p) r.shown 0 (eq-eqb (level r.price) (level p) b) in
      omega (arith, ahead_is p))
      (better_or_same (opposite o.side) r.price p d.0.1 (own_in_range (opposite o.side) o p l e d.1)
      (subst (λ (s : Side). order_key s r.price ≤ order_key (opposite o.side) p) d.0.0 (own_behind (opposite o.side) o p (rank_of r) l e d.1 h.0)))

  reach_by_refilled : (m : Option Price) → own_price o l ≡ m → r.shown < r.open_lots → reach_by m o (put_by_rank rank_of (order_refilled turn r.shown r) l) + r.shown ≡ reach_by m o (r ∷ l)
  reach_by_refilled None e k =
      let y : Order = order_refilled turn r.shown r in
      let v : y.open_lots ≡ r.open_lots - r.shown = ap (λ (q : OrderRow). q.open_lots) (refilled_row turn r.shown r k) in
      let a : cond (within_limit o.side o.price r.price) r.open_lots 0 ≡ r.open_lots = cond-true (within_limit o.side o.price r.price) r.open_lots 0 w in
      let b : cond (within_limit o.side o.price r.price) y.open_lots 0 ≡ y.open_lots = cond-true (within_limit o.side o.price r.price) y.open_lots 0 w in
      omega (arith, open_put o None y l)
  reach_by_refilled (Some p) e k =
      let y : Order = order_refilled turn r.shown r in
      let v : y.open_lots ≡ r.open_lots - r.shown = ap (λ (q : OrderRow). q.open_lots) (refilled_row turn r.shown r k) in
      ⊎_elim
      (λ (b : better (opposite o.side) r.price p ≡ true).
      let a : cond (counts o (Some p) r) r.open_lots 0 ≡ r.open_lots = cond-true (counts o (Some p) r) r.open_lots 0 b in
      let a' : cond (counts o (Some p) y) y.open_lots 0 ≡ y.open_lots = cond-true (counts o (Some p) y) y.open_lots 0 b in
      let s = better_not_same (opposite o.side) r.price p b in
      let c : cond (same_price r.price p) r.shown 0 ≡ 0 = cond-false (same_price r.price p) r.shown 0 s in
      omega (arith, ahead_is p, open_put o (Some p) y l, shown_apart o y p l not_own s))
      (λ (b : level r.price ≡ level p).
      let q = price_same r.price p b in
      let f = subst (λ (u : Price). better (opposite o.side) u p ≡ false) (sym q) (better_itself (opposite o.side) p) in
      let a : cond (counts o (Some p) r) r.open_lots 0 ≡ 0 = cond-false (counts o (Some p) r) r.open_lots 0 f in
      let a' : cond (counts o (Some p) y) y.open_lots 0 ≡ 0 = cond-false (counts o (Some p) y) y.open_lots 0 f in
      let c : cond (same_price r.price p) r.shown 0 ≡ r.shown = cond-true (same_price r.price p) r.shown 0 (eq-eqb (level r.price) (level p) b) in
      let key : order_key r.side r.price ≡ order_key (opposite o.side) p = ap (λ (s : Side). order_key s r.price) d.0.0 ∙ ap (order_key (opposite o.side)) q in
      omega (arith, ahead_is p, open_put o (Some p) y l, shown_behind (opposite o.side) o y p l e h.1 d.1 t key))
      (better_or_same (opposite o.side) r.price p d.0.1 (own_in_range (opposite o.side) o p l e d.1)
      (subst (λ (s : Side). order_key s r.price ≤ order_key (opposite o.side) p) d.0.0 (own_behind (opposite o.side) o p (rank_of r) l e d.1 h.0)))

  reach_filled : r.open_lots ≡ r.shown → reach o l + r.shown ≡ reach o (r ∷ l)
  reach_filled k = reach_by_filled (own_price o l) refl k ∙ sym (ap (λ m. reach_by m o (r ∷ l)) first_is)

  reach_refilled : r.shown < r.open_lots → reach o (put_by_rank rank_of (order_refilled turn r.shown r) l) + r.shown ≡ reach o (r ∷ l)
  reach_refilled k =
      let y : Order = order_refilled turn r.shown r in
      let a : reach o (put_by_rank rank_of y l) ≡ reach_by (own_price o l) o (put_by_rank rank_of y l) = ap (λ m. reach_by m o (put_by_rank rank_of y l)) (own_put o y l not_own) in
      let b : reach_by (own_price o l) o (r ∷ l) ≡ reach o (r ∷ l) = sym (ap (λ m. reach_by m o (r ∷ l)) first_is) in
      omega (arith, reach_by_refilled (own_price o l) refl k)

  pub reach_front_traded : reach o (front_traded turn r l) + r.shown ≡ reach o (r ∷ l)
  reach_front_traded = cond_both (eqb r.open_lots r.shown) l (put_by_rank rank_of (order_refilled turn r.shown r) l) (λ k. reach o k + r.shown ≡ reach o (r ∷ l))
      (λ e. reach_filled (eqb-true r.open_lots r.shown e))
      (λ e. let z = eqb-false r.open_lots r.shown e in reach_refilled (omega arith))

-- what is left of a queue keeps its order, its side and its turns

all_below_next : (turn : ℕ) (l : List Order) → AllByRecursion (λ (y : Order). y.turn < turn) l → AllByRecursion (λ (y : Order). y.turn < suc turn) l
all_below_next turn [] h = tt
all_below_next turn (y ∷ l) h = (let k = h.0 in omega arith, all_below_next turn l h.1)

front_traded_parts : (turn : ℕ) (r : Order) (l : List Order) → suc (total parts (front_traded turn r l)) ≤ total parts (r ∷ l)
front_traded_parts turn r l = cond_both (eqb r.open_lots r.shown) l (put_by_rank rank_of (order_refilled turn r.shown r) l) (λ k. suc (total parts k) ≤ total parts (r ∷ l))
    (λ _. omega (arith, parts_least r))
    (λ e. let z = eqb-false r.open_lots r.shown e in omega (arith, total_put_in rank_of parts (order_refilled turn r.shown r) l, parts_refilled turn r (omega arith)))

no_parts : (o : Order) (l : List Order) → total parts l ≤ 0 → reach o l ≡ 0
no_parts o [] h = refl
no_parts o (r ∷ l) h = absurd (omega (arith, parts_least r))

pub reach_is_unlimited_trade : (k turn : ℕ) (o : Order) (l : List Order) → Sorted rank_of l → AllByRecursion (OnSide (opposite o.side)) l → AllByRecursion (λ (y : Order). y.turn < turn) l →
    total parts l ≤ k → reach o l ≡ unlimited_trade k turn o l
reach_is_unlimited_trade zero turn o l h d t m = no_parts o l m
reach_is_unlimited_trade (suc k) turn o [] h d t m = refl
reach_is_unlimited_trade (suc k) turn o (r ∷ l) h d t m =
    cond_both (not (within_limit o.side o.price r.price)) 0 (cond (same_investor o r) 0 (r.shown + unlimited_trade k (suc turn) o (front_traded turn r l))) (λ n. reach o (r ∷ l) ≡ n)
    (λ e. reach_none_within o (r ∷ l) (none_within_limit o.side o.price r l h d (not-true (within_limit o.side o.price r.price) e)))
    (λ e. let w = not-false (within_limit o.side o.price r.price) e in
    cond_both (same_investor o r) 0 (r.shown + unlimited_trade k (suc turn) o (front_traded turn r l)) (λ n. reach o (r ∷ l) ≡ n)
    (λ i. reach_own o r l (and_from (same_investor o r) (within_limit o.side o.price r.price) i w) h d)
    (λ i. let a = reach_front_traded o r l turn w i h d t.1 in
    let b = reach_is_unlimited_trade k (suc turn) o (front_traded turn r l) (front_traded_sorted (eqb r.open_lots r.shown)) (front_traded_on_side (eqb r.open_lots r.shown))
    (front_traded_drawn (eqb r.open_lots r.shown)) (omega (arith, front_traded_parts turn r l)) in
    omega arith))
  where
    front_traded_sorted : (b : Bool) → Sorted rank_of (cond b l (put_by_rank rank_of (order_refilled turn r.shown r) l))
    front_traded_sorted true = h.1
    front_traded_sorted false = sorted_put_in rank_of (order_refilled turn r.shown r) l h.1

    front_traded_on_side : (b : Bool) → AllByRecursion (OnSide (opposite o.side)) (cond b l (put_by_rank rank_of (order_refilled turn r.shown r) l))
    front_traded_on_side true = d.1
    front_traded_on_side false = all_put_in rank_of (OnSide (opposite o.side)) (order_refilled turn r.shown r) l d.0 d.1

    front_traded_drawn : (b : Bool) → AllByRecursion (λ (y : Order). y.turn < suc turn) (cond b l (put_by_rank rank_of (order_refilled turn r.shown r) l))
    front_traded_drawn true = all_below_next turn l t.1
    front_traded_drawn false = all_put_in rank_of (λ (y : Order). y.turn < suc turn) (order_refilled turn r.shown r) l (let z : turn < suc turn = omega arith in z) (all_below_next turn l t.1)
