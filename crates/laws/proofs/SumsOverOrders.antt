-- Sums over all orders, standing, waiting and incoming: what a take, a put and a rewrite do to them.
use Rattle.std.proofs.Common.{◌≡◌, ℕ, ◌+◌, ◌<◌, ◌≤◌, cond, ltb, List, [], ◌∷◌, set, is_some, Some, None, Option, refl, ap, ◌∙◌, arith, Ok, Err}
use Rattle.std.specs.List.{remove, slice_get}
use Rattle.std.proofs.lemmas.Bool.{cond-true, lt-ltb}
use Rattle.orders.specs.declared.side.Side.{Side}
use Rattle.orders.specs.declared.side.Side.TheVariants.{Buy, Sell}
use Rattle.orders.specs.declared.order.Order.{Order}
use Rattle.orders.specs.declared.order.Stop.{Stop}
use Rattle.books.specs.RankedLists.{put_by_rank}
use Rattle.books.specs.declared.queue.Queue.{Queue}
use Rattle.books.specs.declared.queue.Queue.TheVariants.{Orders, Stops}
use Rattle.books.specs.declared.queue.Record.{Record}
use Rattle.books.specs.declared.queue.Record.TheVariants.{Standing, Waiting}
use Rattle.books.specs.declared.queue.PutError.TheVariants.{Full, Twice}
use Rattle.books.specs.Model.{Queues, at, with_stands, with_waits, rank_of, stop_rank_of, count, capacity, queue_of, number_of, found, put_answer, inserted, taken, record_set}
use Rattle.matching.specs.Model.{MatchState}
use Rattle.matching.specs.Running.{total}
use Rattle.laws.specs.Tally.{Status, stands, waits, incoming}
use Rattle.laws.specs.Accounts.{counting}
use Rattle.laws.proofs.SortedLists.{total_removed, total_put_in, total_set, not_found}

-- a number for each order, by its status
abbrev pub Measure : Type 0
Measure = Status → Order → ℕ

abbrev pub of_stop : Measure → Stop → ℕ
of_stop g x = g waits x.order

-- over the queues
abbrev pub queued : Measure → Queues → ℕ
queued g q = total (g stands) q.stands.buy + total (g stands) q.stands.sell + (total (of_stop g) q.waits.buy + total (of_stop g) q.waits.sell)

-- over the incoming order, and over all
abbrev pub of_incoming : (Order → ℕ) → Option Order → ℕ
of_incoming w None = 0
of_incoming w (Some o) = w o

abbrev pub over : Measure → Queues → Option Order → ℕ
over g q h = queued g q + of_incoming (g incoming) h

abbrev pub everywhere : Measure → MatchState → ℕ
everywhere g f = over g f.queues f.incoming

-- one queue changes

queued_stands : (g : Measure) (s : Side) (l : List Order) (q : Queues) →
    queued g (with_stands s l q) + total (g stands) (at s q.stands) ≡ queued g q + total (g stands) l
queued_stands g Buy l q = omega arith
queued_stands g Sell l q = omega arith

queued_waits : (g : Measure) (s : Side) (l : List Stop) (q : Queues) →
    queued g (with_waits s l q) + total (of_stop g) (at s q.waits) ≡ queued g q + total (of_stop g) l
queued_waits g Buy l q = omega arith
queued_waits g Sell l q = omega arith

pub queued_removed : (g : Measure) (s : Side) (i : ℕ) (o : Order) (q : Queues) → slice_get (at s q.stands) i ≡ Some o → queued g (taken (Orders s) i q) + g stands o ≡ queued g q
queued_removed g s i o q e = omega (arith, queued_stands g s (remove (at s q.stands) i) q, total_removed (g stands) (at s q.stands) i o e)

pub queued_stop_removed : (g : Measure) (s : Side) (i : ℕ) (x : Stop) (q : Queues) → slice_get (at s q.waits) i ≡ Some x →
    queued g (taken (Stops s) i q) + g waits x.order ≡ queued g q
queued_stop_removed g s i x q e = omega (arith, queued_waits g s (remove (at s q.waits) i) q, total_removed (of_stop g) (at s q.waits) i x e)

pub queued_put : (g : Measure) (o : Order) (q : Queues) → queued g (inserted (Standing o) q) ≡ queued g q + g stands o
queued_put g o q = omega (arith, queued_stands g o.side (put_by_rank rank_of o (at o.side q.stands)) q, total_put_in rank_of (g stands) o (at o.side q.stands))

pub queued_stop_put : (g : Measure) (x : Stop) (q : Queues) → queued g (inserted (Waiting x) q) ≡ queued g q + g waits x.order
queued_stop_put g x q = omega (
  arith,
  queued_waits g x.order.side (put_by_rank stop_rank_of x (at x.order.side q.waits)) q,
  total_put_in stop_rank_of
      (of_stop g) x (at x.order.side q.waits),
)

pub queued_set : (g : Measure) (i : ℕ) (x o : Order) (q : Queues) → slice_get (at o.side q.stands) i ≡ Some x →
    queued g (record_set i (Standing o) q) ≡ queued g (taken (Orders o.side) i q) + g stands o
queued_set g i x o q e =
    let s : Side = o.side in
    let l : List Order = at s q.stands in
    omega (arith, queued_stands g s (set l i o) q, queued_stands g s (remove l i) q, total_set (g stands) l i x o e)

-- sums of measures that are below, added to, or equal to others

total_le : {X : Type 0} (g h : X → ℕ) → ((x : X) → g x ≤ h x) → (l : List X) → total g l ≤ total h l
total_le g h k [] = omega arith
total_le g h k (x ∷ l) = let ih = total_le g h k l in omega (arith, k x)

total_plus : {X : Type 0} (g h : X → ℕ) (l : List X) → total (λ x. g x + h x) l ≡ total g l + total h l
total_plus g h [] = refl
total_plus g h (x ∷ l) = let ih = total_plus g h l in omega arith

-- a sum of nothing
pub total_none : {X : Type 0} (l : List X) → total (λ x. 0) l ≡ 0
total_none [] = refl
total_none (x ∷ l) = let ih = total_none l in omega arith

-- two sums agree where they agree at each item whose weight is 0, and all have weight 0
total_agree : {X : Type 0} (w g h : X → ℕ) → ((x : X) → w x ≡ 0 → g x ≡ h x) → (l : List X) → total w l ≡ 0 → total g l ≡ total h l
total_agree w g h k [] e = refl
total_agree w g h k (x ∷ l) e = let ih = total_agree w g h k l (omega arith) in let z = k x (omega arith) in omega arith

module _ (q : Queues) (m : Option Order) where
  pub over_le : (g h : Measure) → ((p : Status) (o : Order) → g p o ≤ h p o) → over g q m ≤ over h q m
  over_le g h k =
      omega (
        arith,
        total_le (g stands) (h stands) (k stands) q.stands.buy,
        total_le (g stands) (h stands) (k stands) q.stands.sell,
        total_le (of_stop g) (of_stop h) (λ x. k waits x.order) q.waits.buy,
        total_le (of_stop g) (of_stop h) (λ x. k waits x.order) q.waits.sell,
        at_incoming m,
      )
    where
      at_incoming : (m : Option Order) → of_incoming (g incoming) m ≤ of_incoming (h incoming) m
      at_incoming None = omega arith
      at_incoming (Some o) = k incoming o

  pub over_plus : (g h : Measure) → over (λ p o. g p o + h p o) q m ≡ over g q m + over h q m
  over_plus g h =
      omega (
        arith,
        total_plus (g stands) (h stands) q.stands.buy,
        total_plus (g stands) (h stands) q.stands.sell,
        total_plus (of_stop g) (of_stop h) q.waits.buy,
        total_plus (of_stop g) (of_stop h) q.waits.sell,
        at_incoming m,
      )
    where
      at_incoming : (m : Option Order) → of_incoming (λ o. g incoming o + h incoming o) m ≡ of_incoming (g incoming) m + of_incoming (h incoming) m
      at_incoming None = refl
      at_incoming (Some o) = refl

  pub over_agree : (w g h : Measure) → ((p : Status) (o : Order) → w p o ≡ 0 → g p o ≡ h p o) → over w q m ≡ 0 → over g q m ≡ over h q m
  over_agree w g h k e =
      omega (
        arith,
        total_agree (w stands) (g stands) (h stands) (k stands) q.stands.buy (omega arith),
        total_agree (w stands) (g stands) (h stands) (k stands) q.stands.sell (omega arith),
        total_agree (of_stop w) (of_stop g) (of_stop h) (λ x. k waits x.order) q.waits.buy (omega arith),
        total_agree (of_stop w) (of_stop g) (of_stop h) (λ x. k waits x.order) q.waits.sell (omega arith),
        at_incoming m (omega arith),
      )
    where
      at_incoming : (m : Option Order) → of_incoming (w incoming) m ≡ 0 → of_incoming (g incoming) m ≡ of_incoming (h incoming) m
      at_incoming None z = refl
      at_incoming (Some o) z = k incoming o z

-- a measure that is nothing everywhere
pub over_nothing : (q : Queues) → over (λ _ _. 0) q None ≡ 0
over_nothing q = omega (arith, total_none q.stands.buy, total_none q.stands.sell, total_none q.waits.buy, total_none q.waits.sell)

-- how many orders have a number
abbrev pub with_number : ℕ → Measure
with_number n p o = counting n o.number 1

none_found : (n : ℕ) (q : Queues) → queued (with_number n) q ≡ 0 → found n q ≡ None
none_found n q e =
    rw (
      not_found (λ (o : Order). o.number) n q.stands.buy (omega arith),
      not_found (λ (o : Order). o.number) n q.stands.sell (omega arith),
      not_found (λ (x : Stop). x.order.number) n q.waits.buy (omega arith),
      not_found (λ (x : Stop). x.order.number) n q.waits.sell (omega arith),
    ) refl

-- a put of a number that none has is done where there is a free place, and else finds its queue full
pub put_new : (e : Record) (q : Queues) → queued (with_number (number_of e)) q ≡ 0 → put_answer e q ≡ cond (ltb (count (queue_of e) q) (capacity (queue_of e) q)) (Ok tt) (Err Full)
put_new e q n = ap (λ (m : Option (Queue × ℕ)). cond (ltb (count (queue_of e) q) (capacity (queue_of e) q)) (cond (is_some m) (Err Twice) (Ok tt)) (Err Full)) (none_found (number_of e) q n)

pub put_done : (e : Record) (q : Queues) → queued (with_number (number_of e)) q ≡ 0 → count (queue_of e) q < capacity (queue_of e) q → put_answer e q ≡ Ok tt
put_done e q n r = put_new e q n ∙ cond-true (ltb (count (queue_of e) q) (capacity (queue_of e) q)) (Ok tt) (Err Full) (lt-ltb (count (queue_of e) q) (capacity (queue_of e) q) r)
