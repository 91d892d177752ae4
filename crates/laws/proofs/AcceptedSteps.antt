-- An accepted step: from a quiescent match state with its tally to a quiescent one with its tally, all its trades fair.
use Rattle.std.proofs.Common.{◌≡◌, ℕ, Some, Option, arith}
use Rattle.std.specs.List.{slice_get}
use Rattle.std.proofs.lemmas.Bool.{cond_both}
use Rattle.orders.specs.declared.order.Order.{Order}
use Rattle.orders.specs.declared.price.Price.{Price}
use Rattle.books.specs.declared.queue.Record.TheVariants.{Standing}
use Rattle.books.specs.Model.{Queues, at, rewritten, rewrite_allowed, record_set}
use Rattle.laws.specs.Quiescence.{Unripe}
use Rattle.matching.specs.declared.new_order.NewOrder.{NewOrder}
use Rattle.matching.specs.declared.amendment.Amendment.{Amendment}
use Rattle.matching.specs.Model.{MatchState, Event, amends, requeues, apply}
use Rattle.matching.specs.Running.{run_to_rest}
use Rattle.matching.specs.Entering.{arrival, enter}
use Rattle.matching.specs.Changing.{loses_turn, amended_order, requeued_order, change_at}
use Rattle.laws.specs.Tally.{Tally, Request, entry, change, noted}
use Rattle.laws.specs.Fair.{FairLines}
use Rattle.laws.proofs.EventsApply.{MayApply}
use Rattle.laws.specs.WithinRoom.{event_lines, PutDone, Trace, ended, then}
use Rattle.laws.proofs.EventsWithinRoom.{within_room, run_to_rest_trace, put_done_arrival}
use Rattle.laws.proofs.LinesAndStamps.{RoomFor}
use Rattle.laws.proofs.RunsToRest.{consistent_apply, Quiescent, quiescent_run_to_rest}
use Rattle.laws.proofs.TallyAgrees.{TallyAgrees}
use Rattle.laws.proofs.EntryArrives.{ValidEntry, may_apply_arrival, no_trade_arrival, tally_agrees_arrival}
use Rattle.laws.proofs.ChangeApplies.{ValidChange, may_apply_requeues, may_apply_amends, tally_agrees_amends, tally_agrees_requeues}
use Rattle.laws.proofs.LinesTell.{LinesTell, lines_tell_then, lines_tell_nothing, lines_tell_run_to_rest, agrees_once_rested}
use Rattle.laws.proofs.RoomSuffices.{RoomForStep, BeginsStep, first_has_room, rest_has_room_at_first, begins_arrival}
use Rattle.laws.proofs.RemovalsApply.{AfterRemovals}

-- what holds after an accepted step
pub record AfterAccepted (q : Request) (t : Tally) (f g : MatchState) : Type 0 where
  pub quiescent : Quiescent g
  pub lines_tell : LinesTell q t f g
  pub trace : Trace f g

pub accepted_removals : (q : Request) (t : Tally) (f g : MatchState) → AfterRemovals q t f g → AfterAccepted q t f g
accepted_removals q t f g s = record {
  quiescent = s.quiescent;
  lines_tell = record {
    lines = s.lines;
    tape_grew = s.tape_grew;
    fair = s.fair;
    agrees = agrees_once_rested g
        (noted q s.lines t) s.matches;
  };
  trace = s.trace;
}

-- a step that begins with an event and then runs to rest
accepted_run : (q : Request) (t : Tally) (e : Event) (f : MatchState) → BeginsStep e → MayApply e f → RoomForStep f → Quiescent f → FairLines q (event_lines e) t → PutDone e f →
    (RoomFor e f → TallyAgrees (noted q (event_lines e) t) (apply e f)) → AfterAccepted q t f (run_to_rest (apply e f))
accepted_run q t e f b fit s c fair put agrees =
    let room = first_has_room e f b fit s in
    let enough = rest_has_room_at_first e f b fit s in
    let consistent = consistent_apply e f fit room c.consistent in
    let t' : Tally = noted q (event_lines e) t in
    record {
      quiescent = quiescent_run_to_rest (apply e f) consistent enough;
      lines_tell = lines_tell_then q t e f (run_to_rest (apply e f)) room fair
          (lines_tell_run_to_rest q t' (apply e f) consistent enough (agrees_once_rested (apply e f) t' (agrees room)));
      trace = then e (within_room e f room put) (run_to_rest_trace (apply e f) consistent enough);
    }

pub accepted_entry : (a : NewOrder) (f : MatchState) (t : Tally) → ValidEntry a → RoomForStep f → Quiescent f → TallyAgrees t f → AfterAccepted (entry a) t f (enter a f)
accepted_entry a f t p s c m =
    accepted_run (entry a) t (arrival a f.session.next_stamp f.queues) f (begins_arrival a f.session.next_stamp f.queues) (may_apply_arrival a f p c) s c
    (no_trade_arrival a f.session.next_stamp f.queues t) (put_done_arrival a f c) (λ room. tally_agrees_arrival a f t p c m room)

-- a rewrite leaves the stops alone
same_stops : (last : Option Price) (i : ℕ) (o : Order) (q : Queues) → Unripe last q → Unripe last (rewritten i (Standing o) q)
same_stops last i o q h = cond_both (rewrite_allowed i (Standing o) q) (record_set i (Standing o) q) q (Unripe last) (λ _. h) (λ _. h)

pub accepted_change : (c : Amendment) (i : ℕ) (o : Order) (f : MatchState) (t : Tally) → slice_get (at o.side f.queues.stands) i ≡ Some o → ValidChange c o → RoomForStep f →
    Quiescent f → TallyAgrees t f → AfterAccepted (change c) t f (change_at c o.side i o f)
accepted_change c i o f t there p s k m =
    let away : Event = requeues o.side i (requeued_order f.session.next_stamp c o) in
    let here : Event = amends i (amended_order c o) in
    cond_both (loses_turn c o) (run_to_rest (apply away f)) (apply here f) (AfterAccepted (change c) t f)
    (λ l. accepted_run (change c) t away f tt (may_apply_requeues c o.side i o f there p k) s k (tt, tt) tt (λ room. tally_agrees_requeues c i o f p k t m o.side there l room))
    (λ l. let fit = may_apply_amends c i o f there p l k in
    let room : RoomFor here f = record { free_lines = omega (arith, s.free_lines); free_stamps = λ z. absurd (omega arith) } in
    let t' : Tally = noted (change c) (event_lines here) t in
    record {
      quiescent = record { consistent = consistent_apply here f fit room k.consistent; idle = k.idle; unripe = same_stops f.session.last_price i (amended_order c o) f.queues k.unripe };
      lines_tell = lines_tell_then (change c) t here f (apply here f) room (tt, tt) (lines_tell_nothing (change c) t' (apply here f) (agrees_once_rested (apply here f) t' (tally_agrees_amends c i o f p k t m there l room)));
      trace = then here (within_room here f room tt) ended;
    })
