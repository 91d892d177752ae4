-- Each event is within room: it has its lines and stamps in full, the book takes what it puts, and its orders keep their bounds.
use Rattle.std.proofs.Common.{◌≡◌, ℕ, ◌-◌, ◌≤◌, Bool, true, false, cond, ltb, Some, sym, refl, ap, ◌∙◌, subst, arith, Ok, Err}
use Rattle.std.specs.List.{slice_get}
use Rattle.orders.specs.declared.side.Side.{Side}
use Rattle.orders.specs.declared.price.Price.{Price}
use Rattle.orders.specs.declared.order.Order.{Order}
use Rattle.orders.specs.Lots.{order_refilled, with_lots, showing}
use Rattle.orders.proofs.RowRoundTrip.{in_bounds_from}
use Rattle.books.specs.declared.queue.Queue.TheVariants.{Orders}
use Rattle.books.specs.declared.queue.Record.{Record}
use Rattle.books.specs.declared.queue.Record.TheVariants.{Standing, Waiting}
use Rattle.books.specs.declared.queue.PutError.{PutError}
use Rattle.books.specs.declared.queue.PutError.TheVariants.{Full, Twice}
use Rattle.books.specs.Model.{Queues, at, count, capacity, queue_of, number_of, put_answer, taken, PutAnswer}
use Rattle.tapes.specs.declared.cause.Cause.{Cause}
use Rattle.tapes.specs.declared.cause.Cause.TheVariants.{NotPut}
use Rattle.matching.specs.declared.new_order.OrderType.TheVariants.{StopLimit}
use Rattle.matching.specs.declared.new_order.NewOrder.{NewOrder}
use Rattle.matching.specs.Model.{MatchState, Event, accepts_and_cancels, cancels_incoming, trades, rests, triggers, RestingOutcome, refilled, outcome, trade_lots}
use Rattle.matching.specs.Running.{run_to_rest}
use Rattle.matching.specs.Entering.{entered_order, entered_stop, arrival}
use Rattle.matching.proofs.OutcomeCases.{outcome_cases}
use Rattle.matching.proofs.PartsFall.{reduced_fits, refilled_fits}
use Rattle.matching.proofs.WeightFalls.{IfRefused, IsNext}
use Rattle.laws.specs.Tally.{incoming}
use Rattle.laws.specs.WithinRoom.{outcome_put, PutDone, outcome_in_bounds, EventInBounds, WithinRoom, Trace, ended, then}
use Rattle.laws.proofs.ArrivalCases.{arrival_cases}
use Rattle.laws.proofs.ConsistentQueues.{ConsistentQueues}
use Rattle.laws.proofs.SumsOverOrders.{queued, of_incoming, with_number, put_new}
use Rattle.laws.proofs.EventsApply.{MayTrade, NumbersUnique, counts_itself, put_back_done, rest_side}
use Rattle.laws.proofs.LinesAndStamps.{RoomFor, tape_is, stamp_is}
use Rattle.laws.proofs.AccountsBalance.{unused_nowhere}
use Rattle.laws.proofs.RunsToRest.{Consistent, consistent_apply, Quiescent, next_may_run, RunsTo, at_end, at_next, RoomForRest, run_to_rest_runs}

pub trace-++ : {f g h : MatchState} → Trace f g → Trace g h → Trace f h
trace-++ ended k = k
trace-++ (then e s c) k = then e s (trace-++ c k)

-- no put is refused because its number is used

not_twice : (b : Bool) → ◌≡◌ {A = PutAnswer} (cond b (Ok tt) (Err Full)) (Err Twice) → ⊥
not_twice true e = let u : ◌≡◌ {A = ℕ} 0 1 = cc in omega arith
not_twice false e = let u : ◌≡◌ {A = ℕ} 0 1 = cc in omega arith

never_twice : (e : Record) (q : Queues) → queued (with_number (number_of e)) q ≡ 0 → put_answer e q ≡ Err Twice → ⊥
never_twice e q n k = not_twice (ltb (count (queue_of e) q) (capacity (queue_of e) q)) (sym (put_new e q n) ∙ k)

-- the number of the incoming order is in no queue
incoming_alone : (f : MatchState) (o : Order) → f.incoming ≡ Some o → NumbersUnique f → queued (with_number o.number) f.queues ≡ 0
incoming_alone f o h s = let z : of_incoming (with_number o.number incoming) f.incoming ≡ with_number o.number incoming o = ap
    (of_incoming (with_number o.number incoming)) h in omega (arith, s o.number, counts_itself incoming o)

-- the book takes what the next event puts

put_done_trade : (o r : Order) (f : MatchState) → MayTrade o r f → ConsistentQueues f.queues → NumbersUnique f → PutDone (trades o r) f
put_done_trade o r f h g s =
    let d = (rest_side o r f h g).0 in
    subst (λ (z : Side). outcome_put (outcome (trade_lots o r) r) (trade_lots o r) f.session.next_stamp r (taken (Orders z) 0 f.queues)) d
    (go (outcome (trade_lots o r) r) (subst (λ (z : Side). slice_get (at z f.queues.stands) 0 ≡ Some r) (sym d) h.first))
  where
    go : (k : RestingOutcome) → slice_get (at r.side f.queues.stands) 0 ≡ Some r → outcome_put k (trade_lots o r) f.session.next_stamp r (taken (Orders r.side) 0 f.queues)
    go refilled e = put_back_done r (order_refilled f.session.next_stamp (trade_lots o r) r) f refl refl e g s
    go _ e = tt

refused_is_full : (c : Cause) (o : Order) (f : MatchState) → f.incoming ≡ Some o → NumbersUnique f → IfRefused c o f.queues → PutDone (cancels_incoming c o) f
refused_is_full NotPut o f h s (Full, e) = e
refused_is_full NotPut o f h s (Twice, e) = absurd (never_twice (Standing o) f.queues (incoming_alone f o h s) e)
refused_is_full _ o f h s r = tt

next_put_done : (e : Event) (f : MatchState) → IsNext e f → Consistent f → PutDone e f
next_put_done (cancels_incoming c o) f h s = refused_is_full c o f h.0 s.accounted.numbers_unique h.1
next_put_done (trades o r) f h s = put_done_trade o r f (next_may_run (trades o r) f h s.queues).0 s.queues s.accounted.numbers_unique
next_put_done (rests o) f h s = h.1
next_put_done (triggers z x) f h s = tt
next_put_done _ f h s = absurd h

-- the rows of an event keep the bounds

outcome_within : (lots stamp : ℕ) (r : Order) → lots ≤ r.shown → outcome_in_bounds (outcome lots r) lots stamp r
outcome_within lots stamp r h = outcome_cases lots r (λ k. outcome_in_bounds k lots stamp r) h (λ _. tt)
    (λ _ more. in_bounds_from (with_lots stamp (r.open_lots - lots) (showing r.disclosed (r.open_lots - lots)) r) (refilled_fits stamp lots r more))
    (λ less. in_bounds_from (with_lots r.turn (r.open_lots - lots) (r.shown - lots) r) (reduced_fits lots r less))

bounds_kept : (e : Event) (f : MatchState) → EventInBounds e f
bounds_kept (trades o r) f = (
  (λ h. in_bounds_from (with_lots o.turn (o.open_lots - trade_lots o r) (showing o.disclosed (o.open_lots - trade_lots o r)) o)
      (refilled_fits o.turn (trade_lots o r) o h)),
  outcome_within (trade_lots o r) f.session.next_stamp r (omega arith),
)
bounds_kept (triggers s x) f = in_bounds_from (with_lots f.session.next_stamp (x.order.open_lots - 0) (showing x.order.disclosed (x.order.open_lots - 0)) x.order)
    (refilled_fits f.session.next_stamp 0 x.order (omega arith))
bounds_kept _ f = tt

pub within_room : (e : Event) (f : MatchState) → RoomFor e f → PutDone e f → WithinRoom e f
within_room e f r p = record { lines_written = tape_is e f r; stamps_drawn = stamp_is e f r; put_done = p; in_bounds = bounds_kept e f }

-- the events of a run are a trace
runs_to_trace : {f g : MatchState} → RunsTo f g → Consistent f → Trace f g
runs_to_trace at_end s = ended
runs_to_trace (at_next {f} e x r l) s = then e (within_room e f r (next_put_done e f x.1 s)) (runs_to_trace l (consistent_apply e f x.0 r s))

pub run_to_rest_trace : (f : MatchState) → Consistent f → RoomForRest f → Trace f (run_to_rest f)
run_to_rest_trace f s h = runs_to_trace (run_to_rest_runs f s h) s

-- the book takes what an entry's first event puts

pub put_done_arrival : (a : NewOrder) (f : MatchState) → Quiescent f → PutDone (arrival a f.session.next_stamp f.queues) f
put_done_arrival a f c = arrival_cases a f.session.next_stamp f.queues (λ e. PutDone e f) (λ _ _ _. tt) (λ _ _. tt) tt (λ limit trigger k e. e) refused
  where
    refused : (limit trigger : Price) (error : PutError) → a.order_type ≡ StopLimit limit trigger →
        put_answer (Waiting (entered_stop trigger (entered_order a limit f.session.next_stamp))) f.queues ≡ Err error →
        PutDone (accepts_and_cancels NotPut (entered_order a limit f.session.next_stamp)) f
    refused limit trigger Full k e = (entered_stop trigger (entered_order a limit f.session.next_stamp), refl, e)
    refused limit trigger Twice k e = absurd (never_twice (Waiting (entered_stop trigger (entered_order a limit f.session.next_stamp))) f.queues (omega (arith, unused_nowhere f c.consistent.accounted f.session.next_stamp (omega arith))) e)
