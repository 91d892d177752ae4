-- Every turn is below the next stamp.
use Rattle.std.proofs.Common.{◌≡◌, ℕ, ◌+◌, ◌<◌, ◌≤◌, cond, ltb, None, sym, refl, ap, subst, arith}
use Rattle.std.proofs.lemmas.Bool.{cond_both, cond-true, ltb-true, lt-ltb}
use Rattle.orders.specs.declared.order.Order.{Order}
use Rattle.orders.specs.Lots.{order_reduced, order_refilled}
use Rattle.matching.specs.Model.{MatchState, Event, accepts, accepts_stop, trades, rests, triggers, amends, requeues, RestingOutcome, filled, refilled, reduced, outcome, incoming_left, trade_lots, apply}
use Rattle.matching.proofs.OutcomeCases.{incoming_left_cases}
use Rattle.laws.specs.Tally.{Status, stands, waits, incoming}
use Rattle.laws.specs.WithinRoom.{event_stamps, outcome_stamps}
use Rattle.laws.proofs.ConsistentQueues.{ConsistentQueues}
use Rattle.laws.proofs.SumsOverOrders.{Measure, of_incoming, everywhere, over_le}
use Rattle.laws.proofs.EventsApply.{MayApply, of_outcome, measure_out, measure_in, untouched_queues, before_event, after_event, NumbersUnique}
use Rattle.laws.proofs.LinesAndStamps.{RoomFor, stamp_is}

-- 1 for an order whose turn is not drawn yet, else 0
abbrev pub turn_undrawn : ℕ → Measure
turn_undrawn stamp p o = cond (ltb o.turn stamp) 0 1

turn_drawn : (stamp : ℕ) (p : Status) (o : Order) → o.turn < stamp → turn_undrawn stamp p o ≡ 0
turn_drawn stamp p o h = cond-true (ltb o.turn stamp) 0 1 (lt-ltb o.turn stamp h)

pub turn_below : (stamp : ℕ) (p : Status) (o : Order) → turn_undrawn stamp p o ≡ 0 → o.turn < stamp
turn_below stamp p o e = cond_both {A = ℕ} (ltb o.turn stamp) 0 1 (λ n. n ≡ 0 → o.turn < stamp) (λ k _. ltb-true o.turn stamp k) (λ _ z. absurd (omega arith)) e

-- a turn that is drawn stays drawn
turns_undrawn_fall : (stamp more : ℕ) (p : Status) (o : Order) → turn_undrawn (stamp + more) p o ≤ turn_undrawn stamp p o
turns_undrawn_fall stamp more p o = cond_both {A = ℕ} (ltb o.turn stamp) 0 1 (λ n. turn_undrawn (stamp + more) p o ≤ n)
    (λ e. let k = turn_drawn (stamp + more) p o (omega (arith, ltb-true o.turn stamp e)) in omega arith)
    (λ _. cond_both {A = ℕ} (ltb o.turn (stamp + more)) 0 1 (λ n. n ≤ 1) (λ _. omega arith) (λ _. omega arith))

incoming_left_turn : (stamp lots : ℕ) (o : Order) → lots ≤ o.open_lots → o.turn < stamp → of_incoming (turn_undrawn stamp incoming) (incoming_left lots o) ≡ 0
incoming_left_turn stamp lots o most h = incoming_left_cases lots o (λ m. of_incoming (turn_undrawn stamp incoming) m ≡ 0) most (λ _. refl) (λ _. turn_drawn stamp incoming (order_refilled o.turn lots o) h)

outcome_turn : (k : RestingOutcome) (lots stamp : ℕ) (r : Order) → r.turn < stamp → of_outcome (turn_undrawn (stamp + outcome_stamps k) stands) k lots stamp r ≡ 0
outcome_turn filled lots stamp r h = refl
outcome_turn refilled lots stamp r h = turn_drawn (stamp + 1) stands (order_refilled stamp lots r) (omega arith)
outcome_turn reduced lots stamp r h = turn_drawn (stamp + 0) stands (order_reduced lots r) (omega arith)

-- the turns of the orders that an event puts in are drawn
in_turns_drawn : (e : Event) (f : MatchState) → MayApply e f → measure_out e f (turn_undrawn f.session.next_stamp) ≡ 0 → measure_in e f (turn_undrawn (f.session.next_stamp + event_stamps e)) ≡ 0
in_turns_drawn (accepts o) f h g = turn_drawn (f.session.next_stamp + 1) incoming o (omega (arith, h.turn))
in_turns_drawn (accepts_stop x) f h g = turn_drawn (f.session.next_stamp + 1) waits x.order (omega (arith, h.enters.turn))
in_turns_drawn (trades o r) f h g =
    let a = turn_below f.session.next_stamp incoming o (omega arith) in
    let b = turn_below f.session.next_stamp stands r (omega arith) in
    omega (arith, incoming_left_turn (f.session.next_stamp + outcome_stamps (outcome (trade_lots o r) r)) (trade_lots o r) o (omega arith) (omega arith), outcome_turn (outcome (trade_lots o r) r) (trade_lots o r) f.session.next_stamp r b)
in_turns_drawn (rests o) f h g = turn_drawn (f.session.next_stamp + 0) stands o (omega (arith, turn_below f.session.next_stamp incoming o g))
in_turns_drawn (triggers s x) f h g = turn_drawn (f.session.next_stamp + 1) incoming (order_refilled f.session.next_stamp 0 x.order) (omega arith)
in_turns_drawn (amends i o) f h g =
    let z : measure_out (amends i o) f (turn_undrawn f.session.next_stamp) ≡ turn_undrawn f.session.next_stamp stands h.0.was = ap (of_incoming (turn_undrawn f.session.next_stamp stands)) h.0.there in
    turn_drawn (f.session.next_stamp + 0) stands o (omega (arith, turn_below f.session.next_stamp stands h.0.was (omega arith), h.1.turn))
in_turns_drawn (requeues s i o) f h g = turn_drawn (f.session.next_stamp + 1) incoming o (omega (arith, h.2))
in_turns_drawn _ f h g = refl

pub turns_drawn_apply : (e : Event) (f : MatchState) → MayApply e f → RoomFor e f → ConsistentQueues f.queues → NumbersUnique f → everywhere (turn_undrawn f.session.next_stamp) f ≡ 0 →
    everywhere (turn_undrawn (apply e f).session.next_stamp) (apply e f) ≡ 0
turns_drawn_apply e f h room g s k =
    let n : ℕ = f.session.next_stamp in
    let t = before_event (turn_undrawn n) e f h in
    let c = in_turns_drawn e f h (omega arith) in
    let l = over_le (untouched_queues e f) None (turn_undrawn (n + event_stamps e)) (turn_undrawn n) (turns_undrawn_fall n (event_stamps e)) in
    subst (λ m. everywhere (turn_undrawn m) (apply e f) ≡ 0) (sym (stamp_is e f room)) (omega (arith, after_event (turn_undrawn (n + event_stamps e)) e f h g s))
