-- Twenty free lines and twenty undrawn stamps for each record and one more suffice (rules 7).
use Rattle.std.proofs.Common.{◌≡◌, ℕ, suc, ◌+◌, ◌*◌, ◌≤◌, List, [], ◌∷◌, length, Some, ap, ◌∙◌, arith, length-append}
use Rattle.std.specs.List.{slice_get}
use Rattle.orders.specs.declared.side.Side.{Side}
use Rattle.orders.specs.declared.side.Side.TheVariants.{Buy, Sell}
use Rattle.orders.specs.declared.order.Order.{Order}
use Rattle.orders.specs.declared.order.Stop.{Stop}
use Rattle.books.specs.RankedLists.{put_by_rank}
use Rattle.books.specs.declared.queue.Queue.TheVariants.{Orders}
use Rattle.books.specs.Model.{Queues, at, with_waits, stop_rank_of, taken}
use Rattle.matching.specs.declared.session.TheConstants.{STAMPS_END}
use Rattle.matching.specs.declared.new_order.NewOrder.{NewOrder}
use Rattle.matching.specs.Model.{MatchState, Event, accepts, accepts_stop, accepts_and_cancels, accepts_unmatched, requeues, apply}
use Rattle.matching.specs.Running.{total, parts, queues_weight, weight}
use Rattle.matching.specs.Entering.{arrival}
use Rattle.matching.proofs.PartsFall.{parts_most}
use Rattle.venue.specs.Rooms.{records, needed}
use Rattle.laws.proofs.ArrivalCases.{arrival_cases}
use Rattle.laws.proofs.SortedLists.{total_removed, length_put_in}
use Rattle.laws.proofs.EventsApply.{MayApply}
use Rattle.laws.specs.WithinRoom.{event_lines, event_stamps}
use Rattle.laws.proofs.LinesAndStamps.{tape, RoomFor, tape_is, stamp_is, limit_is}
use Rattle.laws.proofs.RunsToRest.{RoomForRest}

-- the room that an entry or a change asks for (rules 7)
pub record RoomForStep (f : MatchState) : Type 0 where
  pub free_lines : length (tape f) + needed f.queues ≤ f.tape.limit
  pub free_stamps : f.session.next_stamp + needed f.queues ≤ STAMPS_END

total_most : (l : List Order) → total parts l ≤ 16 * length l
total_most [] = omega arith
total_most (o ∷ l) = let a = parts_most o in let b = total_most l in omega arith

weight_most : (q : Queues) → queues_weight q ≤ 18 * records q
unfolding queues_weight
weight_most q = omega (arith, total_most q.stands.buy, total_most q.stands.sell)

-- the weight of the queues with one order less, and with one stop more

weight_removed : (s : Side) (i : ℕ) (o : Order) (q : Queues) → slice_get (at s q.stands) i ≡ Some o → queues_weight (taken (Orders s) i q) ≤ queues_weight q
unfolding queues_weight
weight_removed Buy i o q e = omega (arith, total_removed parts q.stands.buy i o e)
weight_removed Sell i o q e = omega (arith, total_removed parts q.stands.sell i o e)

weight_stop_accepted : (s : Side) (l : List Stop) (q : Queues) → length l ≡ suc (length (at s q.waits)) → queues_weight (with_waits s l q) ≡ queues_weight q + 18
unfolding queues_weight
weight_stop_accepted Buy l q e = omega arith
weight_stop_accepted Sell l q e = omega arith

-- the events that a step begins with
abbrev pub BeginsStep : Event → Type 0
BeginsStep (accepts o) = Unit {0}
BeginsStep (accepts_stop x) = Unit {0}
BeginsStep (accepts_and_cancels c o) = Unit {0}
BeginsStep (accepts_unmatched n k) = Unit {0}
BeginsStep (requeues s i o) = Unit {0}
BeginsStep _ = ⊥

-- what the first event of a step adds to the weight, and uses of the room
pub record AddsAtMost (e : Event) (f : MatchState) : Type 0 where
  pub by_lines : weight (apply e f) + length (event_lines e) ≤ queues_weight f.queues + 20
  pub by_stamps : weight (apply e f) + event_stamps e ≤ queues_weight f.queues + 20
  pub few_lines : length (event_lines e) ≤ 2
  pub few_stamps : event_stamps e ≤ 1

adds_at_most : (e : Event) (f : MatchState) → BeginsStep e → MayApply e f → AddsAtMost e f
adds_at_most (accepts o) f b h = record { by_lines = omega arith; by_stamps = omega arith; few_lines = omega arith; few_stamps = omega arith }
adds_at_most (accepts_stop x) f b h =
    let s : Side = x.order.side in
    let z = weight_stop_accepted s (put_by_rank stop_rank_of x (at s f.queues.waits)) f.queues (length_put_in stop_rank_of x (at s f.queues.waits)) in
    record { by_lines = omega arith; by_stamps = omega arith; few_lines = omega arith; few_stamps = omega arith }
adds_at_most (accepts_and_cancels c o) f b h = record { by_lines = omega arith; by_stamps = omega arith; few_lines = omega arith; few_stamps = omega arith }
adds_at_most (accepts_unmatched n k) f b h = record { by_lines = omega arith; by_stamps = omega arith; few_lines = omega arith; few_stamps = omega arith }
adds_at_most (requeues s i o) f b h =
    let z = weight_removed s i h.0.was f.queues h.0.there in
    record { by_lines = omega arith; by_stamps = omega arith; few_lines = omega arith; few_stamps = omega arith }
adds_at_most _ f b h = absurd b

pub first_has_room : (e : Event) (f : MatchState) → BeginsStep e → MayApply e f → RoomForStep f → RoomFor e f
first_has_room e f b h s = let g = adds_at_most e f b h in record { free_lines = omega (arith, s.free_lines, g.few_lines); free_stamps = λ _. omega (arith, s.free_stamps) }

pub rest_has_room_at_first : (e : Event) (f : MatchState) → BeginsStep e → MayApply e f → RoomForStep f → RoomForRest (apply e f)
rest_has_room_at_first e f b h s =
    let g = adds_at_most e f b h in
    let r = first_has_room e f b h s in
    let m = weight_most f.queues in
    let d : length (tape (apply e f)) ≡ length (event_lines e) + length (tape f) = ap length (tape_is e f r) ∙ length-append (event_lines e) (tape f) in
    record { free_lines = omega (arith, s.free_lines, g.by_lines, limit_is e f); free_stamps = omega (arith, s.free_stamps, g.by_stamps, stamp_is e f r) }

-- an entry begins with one of these events

pub begins_arrival : (a : NewOrder) (stamp : ℕ) (q : Queues) → BeginsStep (arrival a stamp q)
begins_arrival a stamp q = arrival_cases a stamp q BeginsStep (λ _ _ _. tt) (λ _ _. tt) tt (λ _ _ _ _. tt) (λ _ _ _ _ _. tt)
