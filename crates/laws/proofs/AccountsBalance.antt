-- Every lot is accounted for, no two orders have one number, and each order has the quantity that the tape says.
use Rattle.std.proofs.Common.{◌≡◌, ℕ, ◌+◌, ◌-◌, ◌<◌, ◌≤◌, Bool, true, false, cond, eqb, ◌⊎◌, List, ◌++◌, None, sym, refl, ap, ◌∙◌, subst, inl, inr, ⊎_elim, arith}
use Rattle.std.proofs.lemmas.Bool.{cond-true, eqb-true, eqb-false, eq-eqb, ne_eqb, cases_lt}
use Rattle.orders.specs.declared.order.Order.{Order}
use Rattle.orders.specs.declared.row.OrderRow.{OrderRow}
use Rattle.orders.specs.Lots.{order_reduced, order_refilled}
use Rattle.books.specs.Model.{Queues}
use Rattle.tapes.specs.declared.line.Line.{Line}
use Rattle.matching.specs.Model.{MatchState, Event, accepts, accepts_stop, accepts_and_cancels, accepts_unmatched, cancels_incoming, trades, rests, triggers, cancels_resting, amends, requeues, RestingOutcome, filled, refilled, reduced, outcome, incoming_left, trade_lots, apply}
use Rattle.matching.specs.Running.{total}
use Rattle.matching.proofs.OutcomeCases.{outcome_cases, incoming_left_cases}
use Rattle.laws.specs.Tally.{Status, stands, waits, incoming}
use Rattle.laws.specs.Accounts.{counting, quantity_of, traded_lots, cancelled_lots, open_of}
use Rattle.laws.proofs.ConsistentQueues.{ConsistentQueues}
use Rattle.laws.proofs.SumsOverOrders.{Measure, of_incoming, everywhere, over_le, over_plus, with_number}
use Rattle.laws.proofs.RowsInBounds.{refilled_row, reduced_row}
use Rattle.laws.proofs.EventsApply.{MayEnter, ChangesInto, MayApply, of_outcome, measure_out, measure_in, untouched_queues, measure_untouched, before_event, after_event, NumbersUnique, counts_itself}
use Rattle.laws.specs.WithinRoom.{event_lines, event_stamps}
use Rattle.laws.proofs.LinesAndStamps.{tape, RoomFor, tape_is, stamp_is}

-- the open lots of a number
abbrev pub lots_of : ℕ → Measure
lots_of n p o = open_of n o

-- 1 for an order whose quantity is not what the tape says, else 0
abbrev pub unknown : List Line → Measure
unknown l p o = cond (eqb (quantity_of o.number l) o.quantity) 0 1

-- accounts of the lines of a tape, the next stamp, and sums over all orders
pub record AccountedBy (l : List Line) (stamp : ℕ) (sum : Measure → ℕ) : Type 0 where
  pub balanced : (n : ℕ) → quantity_of n l ≡ total (traded_lots n) l + sum (lots_of n) + total (cancelled_lots n) l
  pub unused : (n : ℕ) → stamp ≤ n → quantity_of n l ≡ 0
  pub numbers_unique : (n : ℕ) → sum (with_number n) ≤ 1
  pub quantities_known : sum (unknown l) ≡ 0

-- the tape, the next stamp and the orders of a match state are accounted for
abbrev pub Accounted : MatchState → Type 0
Accounted f = AccountedBy (tape f) f.session.next_stamp (λ g. everywhere g f)

-- two numbers are equal or not
eqb_cases : (m n : ℕ) (P : Bool → Type 0) → (m ≡ n → P true) → ((m ≡ n → ⊥) → P false) → P (eqb m n)
eqb_cases m n P same apart = go (eqb m n) refl
  where
    go : (b : Bool) → eqb m n ≡ b → P b
    go true e = same (eqb-true m n e)
    go false e = apart (eqb-false m n e)

-- a number that is not drawn yet is of no order
pub unused_nowhere : (f : MatchState) → Accounted f → (n : ℕ) → f.session.next_stamp ≤ n → everywhere (with_number n) f ≡ 0
unused_nowhere f k n l =
    let a = over_le f.queues f.incoming (with_number n) (lots_of n) (λ p o. eqb_cases o.number n (λ b. cond b 1 0 ≤ cond b o.open_lots 0) (λ _. omega arith) (λ _. omega arith)) in
    omega (arith, k.balanced n, k.unused n l)

-- the number of an order is below the next stamp
used_below : (f : MatchState) → Accounted f → (n : ℕ) → 1 ≤ everywhere (with_number n) f → n < f.session.next_stamp
used_below f k n h = ⊎_elim (λ (l : n < f.session.next_stamp). l) (λ (l : f.session.next_stamp ≤ n). absurd (omega (arith, unused_nowhere f k n l))) (cases_lt n f.session.next_stamp)

-- open lots after a trade

counting_sum : (m n a b c : ℕ) → a + b ≡ c → counting n m a + counting n m b ≡ counting n m c
counting_sum m n a b c e = eqb_cases m n (λ t. cond t a 0 + cond t b 0 ≡ cond t c 0) (λ _. omega arith) (λ _. omega arith)

incoming_left_open : (n lots : ℕ) (o : Order) → lots ≤ o.open_lots → of_incoming (open_of n) (incoming_left lots o) + counting n o.number lots ≡ open_of n o
incoming_left_open n lots o h = incoming_left_cases lots o (λ m. of_incoming (open_of n) m + counting n o.number lots ≡ open_of n o) h
    (λ e. let z : counting n o.number o.open_lots ≡ counting n o.number lots = ap (counting n o.number) e in omega arith)
    (λ more. let k : (order_refilled o.turn lots o).open_lots ≡ o.open_lots - lots = ap (λ (r : OrderRow). r.open_lots) (refilled_row o.turn lots o more) in
    counting_sum o.number n (order_refilled o.turn lots o).open_lots lots o.open_lots (omega arith))

outcome_open : (n lots stamp : ℕ) (r : Order) → lots ≤ r.shown → of_outcome (open_of n) (outcome lots r) lots stamp r + counting n r.number lots ≡ open_of n r
outcome_open n lots stamp r h = outcome_cases lots r (λ k. of_outcome (open_of n) k lots stamp r + counting n r.number lots ≡ open_of n r) h
    (λ e. let z : counting n r.number r.open_lots ≡ counting n r.number lots = ap (counting n r.number) e in omega arith)
    (λ _ more. let k : (order_refilled stamp lots r).open_lots ≡ r.open_lots - lots = ap (λ (r : OrderRow). r.open_lots) (refilled_row stamp lots r more) in
    counting_sum r.number n (order_refilled stamp lots r).open_lots lots r.open_lots (omega arith))
    (λ less. let k : (order_reduced lots r).open_lots ≡ r.open_lots - lots = ap (λ (r : OrderRow). r.open_lots) (reduced_row lots r less) in
    counting_sum r.number n (order_reduced lots r).open_lots lots r.open_lots (omega arith))

-- a new number, and a new quantity under an old one

new_number : (m n lots old : ℕ) → (m ≡ n → old ≡ 0) → cond (eqb m n) lots old ≡ old + counting n m lots
new_number m n lots old h = eqb_cases m n (λ b. cond b lots old ≡ old + cond b lots 0) (λ e. let z = h e in omega arith) (λ _. omega arith)

old_number : (m n lots left new was old : ℕ) → (m ≡ n → old ≡ was) → lots + left ≡ new + was → cond (eqb m n) lots old + counting n m left ≡ old + counting n m new
old_number m n lots left new was old h k = eqb_cases m n (λ b. cond b lots old + cond b left 0 ≡ old + cond b new 0) (λ e. let z = h e in omega arith) (λ _. omega arith)

new_order_counted : (o : Order) (f : MatchState) (n : ℕ) → MayEnter o f → Accounted f →
    cond (eqb o.number n) o.quantity (quantity_of n (tape f)) ≡ quantity_of n (tape f) + open_of n o
new_order_counted o f n h k = ap (λ m. cond (eqb o.number n) m (quantity_of n (tape f))) (sym h.whole) ∙ new_number o.number n o.open_lots
    (quantity_of n (tape f)) (λ e. k.unused n (omega (arith, h.new)))

known_at : (l : List Line) (p : Status) (o : Order) → unknown l p o ≡ 0 → quantity_of o.number l ≡ o.quantity
known_at l p o e = eqb_cases (quantity_of o.number l) o.quantity (λ b. cond {A = ℕ} b 0 1 ≡ 0 → quantity_of o.number l ≡ o.quantity) (λ z _. z) (λ _ z. absurd (omega arith)) e

at_known : (l : List Line) (p : Status) (o : Order) → quantity_of o.number l ≡ o.quantity → unknown l p o ≡ 0
at_known l p o e = cond-true (eqb (quantity_of o.number l) o.quantity) 0 1 (eq-eqb (quantity_of o.number l) o.quantity e)

-- the order that a change takes: its quantity is what the tape says, and its number is below the next stamp
module _ (e : Event) (f : MatchState) (fit : MayApply e f) (k : Accounted f) (x : Order) (is : (g : Measure) → measure_out e f g ≡ g stands x) where
  was_known : quantity_of x.number (tape f) ≡ x.quantity
  was_known = known_at (tape f) stands x (omega (arith, before_event (unknown (tape f)) e f fit, is (unknown (tape f)), k.quantities_known))

  was_used : x.number < f.session.next_stamp
  was_used = used_below f k x.number (omega (arith, before_event (with_number x.number) e f fit, is (with_number x.number), counts_itself stands x))

  replaced : (o : Order) → ChangesInto x o → (n : ℕ) → cond (eqb o.number n) o.quantity (quantity_of n (tape f)) + open_of n x ≡ quantity_of n (tape f) + open_of n o
  replaced o w n = rw w.number (old_number x.number n o.quantity x.open_lots o.open_lots x.quantity (quantity_of n (tape f))
      (λ z. subst (λ m. quantity_of m (tape f) ≡ x.quantity) z was_known) w.account)

amended_out : (i : ℕ) (o : Order) (f : MatchState) (h : MayApply (amends i o) f) (g : Measure) → measure_out (amends i o) f g ≡ g stands h.0.was
amended_out i o f h g = ap (of_incoming (g stands)) h.0.there

requeued_out : (s : _) (i : ℕ) (o : Order) (f : MatchState) (h : MayApply (requeues s i o) f) (g : Measure) → measure_out (requeues s i o) f g ≡ g stands h.0.was
requeued_out s i o f h g = ap (of_incoming (g stands)) h.0.there

-- what an event writes, takes out and puts in balances, for each number
balance : (e : Event) (f : MatchState) → MayApply e f → Accounted f → (n : ℕ) →
    quantity_of n (event_lines e ++ tape f) + total (traded_lots n) (tape f) + total (cancelled_lots n) (tape f) + measure_out e f (lots_of n)
    ≡ quantity_of n (tape f) + total (traded_lots n) (event_lines e ++ tape f) + total (cancelled_lots n) (event_lines e ++ tape f) + measure_in e f (lots_of n)
balance (accepts o) f h k n = omega (arith, new_order_counted o f n h k)
balance (accepts_stop x) f h k n = omega (arith, new_order_counted x.order f n h.enters k)
balance (accepts_and_cancels c o) f h k n = omega (arith, new_order_counted o f n h k)
balance (accepts_unmatched m lots) f h k n = omega (arith, new_number m n lots (quantity_of n (tape f)) (λ e. k.unused n (omega (arith, h.1))))
balance (trades o r) f h k n = omega (arith, incoming_left_open n (trade_lots o r) o (omega arith), outcome_open n (trade_lots o r) f.session.next_stamp r (omega arith))
balance (triggers s x) f h k n =
    let z : (order_refilled f.session.next_stamp 0 x.order).open_lots ≡ x.order.open_lots - 0 = ap (λ (r : OrderRow). r.open_lots) (refilled_row f.session.next_stamp 0 x.order (omega arith)) in
    let y : open_of n (order_refilled f.session.next_stamp 0 x.order) ≡ open_of n x.order = ap (counting n x.order.number)
    (let u : (order_refilled f.session.next_stamp 0 x.order).open_lots ≡ x.order.open_lots = omega arith in u) in
    omega arith
balance (amends i o) f h k n = omega (arith, amended_out i o f h (lots_of n), replaced (amends i o) f h k h.0.was (amended_out i o f h) o h.0.changes n)
balance (requeues s i o) f h k n = omega (arith, requeued_out s i o f h (lots_of n), replaced (requeues s i o) f h k h.0.was (requeued_out s i o f h) o h.0.changes n)
balance _ f h k n = omega arith

unused_apply : (e : Event) (f : MatchState) → MayApply e f → Accounted f → (n : ℕ) → f.session.next_stamp + event_stamps e ≤ n → quantity_of n (event_lines e ++ tape f) ≡ 0
unused_apply (accepts o) f h k n l = rw (ne_eqb o.number n (λ e. omega (arith, h.new, e))) (k.unused n (omega arith))
unused_apply (accepts_stop x) f h k n l = rw (ne_eqb x.order.number n (λ e. omega (arith, h.enters.new, e))) (k.unused n (omega arith))
unused_apply (accepts_and_cancels c o) f h k n l = rw (ne_eqb o.number n (λ e. omega (arith, h.new, e))) (k.unused n (omega arith))
unused_apply (accepts_unmatched m lots) f h k n l = rw (ne_eqb m n (λ e. omega (arith, h.1, e))) (k.unused n (omega arith))
unused_apply (amends i o) f h k n l =
    let b = was_used (amends i o) f h k h.0.was (amended_out i o f h) in
    rw (ne_eqb o.number n (λ e. omega (arith, h.0.changes.number, e))) (k.unused n (omega arith))
unused_apply (requeues s i o) f h k n l =
    let b = was_used (requeues s i o) f h k h.0.was (requeued_out s i o f h) in
    rw (ne_eqb o.number n (λ e. omega (arith, h.0.changes.number, e))) (k.unused n (omega arith))
unused_apply _ f h k n l = k.unused n (omega arith)

-- a trade gives no order a new number
incoming_left_number : (n lots : ℕ) (o : Order) → lots ≤ o.open_lots → of_incoming (with_number n incoming) (incoming_left lots o) ≤ with_number n incoming o
incoming_left_number n lots o h = incoming_left_cases lots o (λ m. of_incoming (with_number n incoming) m ≤ with_number n incoming o) h (λ _. omega arith) (λ _. omega arith)

outcome_number : (n lots stamp : ℕ) (k : RestingOutcome) (r : Order) → of_outcome (with_number n stands) k lots stamp r ≤ with_number n stands r
outcome_number n lots stamp filled r = omega arith
outcome_number n lots stamp refilled r = omega arith
outcome_number n lots stamp reduced r = omega arith

-- an event adds no order of a number, or there was none
abbrev NumberStaysUnique : ℕ → Event → MatchState → Type 0
NumberStaysUnique n e f = (measure_in e f (with_number n) ≤ measure_out e f (with_number n)) ⊎ (everywhere (with_number n) f + measure_in e f (with_number n) ≤ 1)

unique_new : (m n : ℕ) (f : MatchState) → m ≡ f.session.next_stamp → Accounted f → (counting n m 1 ≤ 0) ⊎ (everywhere (with_number n) f + counting n m 1 ≤ 1)
unique_new m n f h k = eqb_cases m n (λ b. (cond b 1 0 ≤ 0) ⊎ (everywhere (with_number n) f + cond b 1 0 ≤ 1)) (λ e. inr (omega (arith, unused_nowhere f k n (omega arith)))) (λ _. inl (omega arith))

unique_after : (e : Event) (f : MatchState) → MayApply e f → Accounted f → (n : ℕ) → NumberStaysUnique n e f
unique_after (accepts o) f h k n = unique_new o.number n f h.new k
unique_after (accepts_stop x) f h k n = unique_new x.order.number n f h.enters.new k
unique_after (trades o r) f h k n = inl (omega (arith, incoming_left_number n (trade_lots o r) o (omega arith), outcome_number n (trade_lots o r) f.session.next_stamp (outcome (trade_lots o r) r) r))
unique_after (amends i o) f h k n = inl (let z : with_number n stands o ≡ with_number n stands h.0.was = ap (λ m. counting n m 1) h.0.changes.number in omega (arith, amended_out i o f h (with_number n)))
unique_after (requeues s i o) f h k n = inl (let z : with_number n incoming o ≡ with_number n stands h.0.was = ap (λ m. counting n m 1)
    h.0.changes.number in omega (arith, requeued_out s i o f h (with_number n)))
unique_after _ f h k n = inl (omega arith)

-- a quantity that is not what the tape says after a line A or R of number m was not so before, or is of that number
abbrev unknown_after : (m lots : ℕ) → List Line → Measure
unknown_after m lots l p o = cond (eqb (cond (eqb m o.number) lots (quantity_of o.number l)) o.quantity) 0 1

still_known : (m lots : ℕ) (l : List Line) (p : Status) (o : Order) → unknown_after m lots l p o ≤ unknown l p o + with_number m p o
still_known m lots l p o =
    eqb_cases m o.number (λ b. cond {A = ℕ} (eqb (cond b lots (quantity_of o.number l)) o.quantity) 0 1 ≤ unknown l p o + with_number m p o)
    (λ e. let z : with_number m p o ≡ 1 = rw (eq-eqb o.number m (sym e)) refl in omega (arith, at_most (eqb lots o.quantity)))
    (λ _. omega arith)
  where
    at_most : (b : Bool) → cond {A = ℕ} b 0 1 ≤ 1
    at_most true = omega arith
    at_most false = omega arith

new_known : (l : List Line) (p : Status) (o : Order) → unknown_after o.number o.quantity l p o ≡ 0
new_known l p o =
    rw (cond-true (eqb o.number o.number) o.quantity (quantity_of o.number l) (eq-eqb o.number o.number refl), eq-eqb o.quantity o.quantity refl) refl

module _ (e : Event) (f : MatchState) (fit : MayApply e f) (k : Accounted f) where
  untouched_known : measure_untouched (unknown (tape f)) e f ≡ 0
  untouched_known = omega (arith, before_event (unknown (tape f)) e f fit, k.quantities_known)

  out_known : measure_out e f (unknown (tape f)) ≡ 0
  out_known = omega (arith, before_event (unknown (tape f)) e f fit, k.quantities_known)

  untouched_new : (m : ℕ) → m ≡ f.session.next_stamp → measure_untouched (with_number m) e f ≡ 0
  untouched_new m z = omega (arith, before_event (with_number m) e f fit, unused_nowhere f k m (omega arith))

  -- a line A or R of a number that no untouched order has leaves their quantities as the tape says
  untouched_still_known : (m lots : ℕ) → measure_untouched (with_number m) e f ≡ 0 → measure_untouched (unknown_after m lots (tape f)) e f ≡ 0
  untouched_still_known m lots z =
      let q : Queues = untouched_queues e f in
      let w : Measure = λ p o. unknown (tape f) p o + with_number m p o in
      omega (arith, over_le q None (unknown_after m lots (tape f)) w (still_known m lots (tape f)), over_plus q None (unknown (tape f)) (with_number m), untouched_known)

  -- the orders that an event leaves untouched have other numbers than the one that it takes out
  pub untouched_unnumbered : (m : ℕ) → 1 ≤ measure_out e f (with_number m) → measure_untouched (with_number m) e f ≡ 0
  untouched_unnumbered m h = omega (arith, before_event (with_number m) e f fit, k.numbers_unique m)

incoming_left_known : (l : List Line) (lots : ℕ) (o : Order) → lots ≤ o.open_lots → unknown l incoming o ≡ 0 → of_incoming (unknown l incoming) (incoming_left lots o) ≡ 0
incoming_left_known l lots o h e = incoming_left_cases lots o (λ m. of_incoming (unknown l incoming) m ≡ 0) h (λ _. refl)
    (λ more. at_known l incoming (order_refilled o.turn lots o) (known_at l incoming o e ∙ sym (ap (λ (r : OrderRow). r.quantity) (refilled_row o.turn lots o more))))

outcome_known : (l : List Line) (lots stamp : ℕ) (r : Order) → lots ≤ r.shown → unknown l stands r ≡ 0 → of_outcome (unknown l stands) (outcome lots r) lots stamp r ≡ 0
outcome_known l lots stamp r h e = outcome_cases lots r (λ k. of_outcome (unknown l stands) k lots stamp r ≡ 0) h (λ _. refl)
    (λ _ more. at_known l stands (order_refilled stamp lots r) (known_at l stands r e ∙ sym (ap (λ (r : OrderRow). r.quantity) (refilled_row stamp lots r more))))
    (λ less. at_known l stands (order_reduced lots r) (known_at l stands r e ∙ sym (ap (λ (r : OrderRow). r.quantity) (reduced_row lots r less))))

known_apply : (e : Event) (f : MatchState) → MayApply e f → Accounted f → measure_untouched (unknown (event_lines e ++ tape f)) e f + measure_in e f (unknown (event_lines e ++ tape f)) ≡ 0
known_apply (accepts o) f h k =
    let e : Event = accepts o in
    omega (arith, untouched_still_known e f h k o.number o.quantity (untouched_new e f h k o.number h.new), new_known (tape f) incoming o)
known_apply (accepts_stop x) f h k =
    let e : Event = accepts_stop x in
    let o : Order = x.order in
    omega (arith, untouched_still_known e f h k o.number o.quantity (untouched_new e f h k o.number h.enters.new), new_known (tape f) waits o)
known_apply (accepts_and_cancels c o) f h k =
    let e : Event = accepts_and_cancels c o in
    omega (arith, untouched_still_known e f h k o.number o.quantity (untouched_new e f h k o.number h.new))
known_apply (accepts_unmatched m lots) f h k =
    let e : Event = accepts_unmatched m lots in
    omega (arith, untouched_still_known e f h k m lots (untouched_new e f h k m h.1))
known_apply (cancels_incoming c o) f h k = omega (arith, untouched_known (cancels_incoming c o) f h k)
known_apply (trades o r) f h k =
    let g = out_known (trades o r) f h k in
    omega (arith, untouched_known (trades o r) f h k, incoming_left_known (tape f) (trade_lots o r) o (omega arith) (omega arith), outcome_known (tape f) (trade_lots o r) f.session.next_stamp r (omega arith) (omega arith))
known_apply (rests o) f h k = omega (arith, untouched_known (rests o) f h k, out_known (rests o) f h k)
known_apply (triggers s x) f h k =
    let o : Order = x.order in
    let w = known_at (tape f) waits o (out_known (triggers s x) f h k) in
    omega (
      arith,
      untouched_known (triggers s x) f h k,
      at_known (tape f) incoming (order_refilled f.session.next_stamp 0 o)
          (w ∙ sym (ap (λ (r : OrderRow). r.quantity) (refilled_row f.session.next_stamp 0 o (omega arith)))),
    )
known_apply (cancels_resting c m i r) f h k = omega (arith, untouched_known (cancels_resting c m i r) f h k)
known_apply (amends i o) f h k =
    let e : Event = amends i o in
    let x : Order = h.0.was in
    let one : with_number o.number stands x ≡ 1 = rw h.0.changes.number (counts_itself stands x) in
    let alone = untouched_unnumbered e f h k o.number (omega (arith, amended_out i o f h (with_number o.number))) in
    omega (arith, untouched_still_known e f h k o.number o.quantity alone, new_known (tape f) stands o)
known_apply (requeues s i o) f h k =
    let e : Event = requeues s i o in
    let x : Order = h.0.was in
    let one : with_number o.number stands x ≡ 1 = rw h.0.changes.number (counts_itself stands x) in
    let alone = untouched_unnumbered e f h k o.number (omega (arith, requeued_out s i o f h (with_number o.number))) in
    omega (arith, untouched_still_known e f h k o.number o.quantity alone, new_known (tape f) incoming o)

-- each event leaves every lot accounted for
pub accounted_apply : (e : Event) (f : MatchState) → MayApply e f → RoomFor e f → ConsistentQueues f.queues → Accounted f → Accounted (apply e f)
accounted_apply e f h room g k =
    let s : NumbersUnique f = k.numbers_unique in
    subst (λ l. AccountedBy l (apply e f).session.next_stamp (λ g. everywhere g (apply e f))) (sym (tape_is e f room))
    (subst (λ n. AccountedBy (event_lines e ++ tape f) n (λ g. everywhere g (apply e f))) (sym (stamp_is e f room))
    (record {
      balanced = λ n. omega (arith, before_event (lots_of n) e f h, after_event (lots_of n) e f h g s, k.balanced n, balance e f h k n);
      unused = unused_apply e f h k;
      numbers_unique = λ n. (let d = unique_after e f h k n in omega (arith, before_event (with_number n) e f h, after_event (with_number n) e f h g s, k.numbers_unique n));
      quantities_known = omega (arith, after_event (unknown (event_lines e ++ tape f)) e f h g s, known_apply e f h k);
    }))
