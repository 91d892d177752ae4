-- What is next may apply and has room, so one event follows another until none is next.
use Rattle.std.proofs.Common.{◌≡◌, ℕ, zero, suc, ◌+◌, ◌<◌, ◌≤◌, Bool, true, false, cond, ltb, List, [], ◌∷◌, length, is_some, Some, None, Option, sym, refl, ap, ◌∙◌, subst, arith, length-append, Ok, Err}
use Rattle.std.specs.List.{AllByRecursion, slice_get}
use Rattle.std.specs.Option.{option_map}
use Rattle.std.proofs.lemmas.Bool.{ltb-true}
use Rattle.orders.specs.declared.side.Side.{Side}
use Rattle.orders.specs.declared.side.Side.TheVariants.{Buy, Sell}
use Rattle.orders.specs.declared.price.Price.{Price}
use Rattle.orders.specs.declared.order.Order.{Order}
use Rattle.orders.specs.declared.order.Stop.{Stop}
use Rattle.orders.specs.Ranks.{ranks_ahead, stop_key}
use Rattle.orders.specs.Sides.{opposite}
use Rattle.books.specs.declared.queue.Record.{Record}
use Rattle.books.specs.declared.queue.Record.TheVariants.{Standing, Waiting}
use Rattle.books.specs.declared.queue.PutError.TheVariants.{Full, Twice}
use Rattle.books.specs.Model.{Queues, at, rank_of, stop_rank_of, count, capacity, queue_of, number_of, found, standing_order, waiting_stop, put_answer, PutAnswer}
use Rattle.matching.specs.declared.session.TheConstants.{STAMPS_END}
use Rattle.matching.specs.Model.{MatchState, Event, cancels_incoming, trades, rests, triggers, RestingOutcome, filled, refilled, reduced, outcome, trade_lots, apply}
use Rattle.matching.specs.Running.{next_event, next_given, first_order, first_stop, ripe, if_ripe, lower_turn, trigger_event, run_events, weight, run_to_rest}
use Rattle.matching.proofs.WeightFalls.{NoMatch, IsNext, is_next, run_events_next, run_events_zero, weight_falls}
use Rattle.laws.specs.Quiescence.{Unripe}
use Rattle.laws.proofs.SortedLists.{Sorted}
use Rattle.laws.proofs.ConsistentQueues.{ConsistentQueues, OnSide, StopOnSide, NoneWithinLimit, none_within_limit, no_riper}
use Rattle.laws.proofs.EventsApply.{MayApply, IncomingReady, queues_apply, ready_apply}
use Rattle.laws.specs.WithinRoom.{event_lines, event_stamps, outcome_stamps}
use Rattle.laws.proofs.LinesAndStamps.{tape, RoomFor, tape_is, stamp_is, limit_is}
use Rattle.laws.proofs.SumsOverOrders.{everywhere}
use Rattle.laws.proofs.AccountsBalance.{Accounted, accounted_apply}
use Rattle.laws.proofs.TurnsBelowStamp.{turn_undrawn, turns_drawn_apply}

-- what holds of a match state at all times
pub record Consistent (f : MatchState) : Type 0 where
  pub queues : ConsistentQueues f.queues
  pub accounted : Accounted f
  pub incoming_ready : IncomingReady f.incoming
  pub turns_below : everywhere (turn_undrawn f.session.next_stamp) f ≡ 0

pub consistent_apply : (e : Event) (f : MatchState) → MayApply e f → RoomFor e f → Consistent f → Consistent (apply e f)
consistent_apply e f h r s = record {
  queues = queues_apply e f h s.queues s.accounted.numbers_unique s.incoming_ready;
  accounted = accounted_apply e f h r s.queues
      s.accounted;
  incoming_ready = ready_apply e f h s.queues s.incoming_ready;
  turns_below = turns_drawn_apply e f h r s.queues s.accounted.numbers_unique s.turns_below;
}

outcome_draws_one : (k : RestingOutcome) → outcome_stamps k ≤ 1
outcome_draws_one filled = omega arith
outcome_draws_one refilled = omega arith
outcome_draws_one reduced = omega arith

-- an event that is next writes one line at most, and draws one stamp at most
one_line_each : (e : Event) (f : MatchState) → IsNext e f → (length (event_lines e) ≤ 1) × (event_stamps e ≤ 1)
one_line_each (cancels_incoming c o) f i = (omega arith, omega arith)
one_line_each (trades o r) f i = (omega arith, outcome_draws_one (outcome (trade_lots o r) r))
one_line_each (rests o) f i = (omega arith, omega arith)
one_line_each (triggers s x) f i = (omega arith, omega arith)
one_line_each _ f i = absurd i

-- an event that is next, and may apply
abbrev pub MayRun : Event → MatchState → Type 0
MayRun e f = MayApply e f × IsNext e f

-- a put that is done found a free place
pub put_found_place : (e : Record) (q : Queues) → put_answer e q ≡ Ok tt → count (queue_of e) q < capacity (queue_of e) q
put_found_place e q h = go (ltb (count (queue_of e) q) (capacity (queue_of e) q)) refl h
  where
    go : (b : Bool) → ltb (count (queue_of e) q) (capacity (queue_of e) q) ≡ b → ◌≡◌ {A = PutAnswer} (cond b (cond (is_some (found (number_of e) q)) (Err Twice) (Ok tt)) (Err Full)) (Ok tt) →
        count (queue_of e) q < capacity (queue_of e) q
    go true k _ = ltb-true (count (queue_of e) q) (capacity (queue_of e) q) k
    go false k z = let u : ◌≡◌ {A = ℕ} 0 1 = cc in absurd (omega arith)

-- the first order, and the first stop, of a queue
first_order_is : (s : Side) (q : Queues) (r : Order) → first_order s q ≡ Some r → slice_get (at s q.stands) 0 ≡ Some r
first_order_is s q r e = go (slice_get (at s q.stands) 0) e
  where
    go : (m : Option Order) → standing_order (option_map Standing m) ≡ Some r → m ≡ Some r
    go None e = e
    go (Some o) e = e

first_stop_is : (s : Side) (q : Queues) (x : Stop) → first_stop s q ≡ Some x → slice_get (at s q.waits) 0 ≡ Some x
first_stop_is s q x e = go (slice_get (at s q.waits) 0) e
  where
    go : (m : Option Stop) → waiting_stop (option_map Waiting m) ≡ Some x → m ≡ Some x
    go None e = e
    go (Some y) e = e

-- where the first order is not within the limit, none is
none_within_limit_of : (o : Order) (l : List Order) → Sorted rank_of l → AllByRecursion (OnSide (opposite o.side)) l →
    NoMatch o (standing_order (option_map Standing (slice_get l 0))) → NoneWithinLimit o.side o.price l
none_within_limit_of o [] h d w = tt
none_within_limit_of o (r ∷ rest) h d w = none_within_limit o.side o.price r rest h d w

-- what is next may apply
pub next_may_run : (e : Event) (f : MatchState) → IsNext e f → ConsistentQueues f.queues → MayRun e f
next_may_run (cancels_incoming c o) f h g = (h.0, h)
next_may_run (trades o r) f h g = (record { is_incoming = h.0; first = first_order_is (opposite o.side) f.queues r h.1; within_its_limit = h.2 }, h)
next_may_run (rests o) f h g =
    let s : Side = opposite o.side in
    (record { is_incoming = h.0; none_match = none_within_limit_of o (at s f.queues.stands) (g.sorted s) (g.on_side s) h.2; has_place = put_found_place (Standing o) f.queues h.1 }, h)
next_may_run (triggers s x) f h g = ((h.0, first_stop_is s f.queues x h.1), h)
next_may_run _ f h g = absurd h

-- events, each next and each with room for its line and its stamp, lead from one match state to another
pub data RunsTo : MatchState → MatchState → Type 0 where
  at_end : {f : MatchState} → RunsTo f f
  at_next : {f g : MatchState} (e : Event) → MayRun e f → RoomFor e f → RunsTo (apply e f) g → RunsTo f g

runs_to_consistent : {f g : MatchState} → RunsTo f g → Consistent f → Consistent g
runs_to_consistent at_end s = s
runs_to_consistent (at_next {f} e n r l) s = runs_to_consistent l (consistent_apply e f n.0 r s)

-- room for all that may still come: a free line and an undrawn stamp for each of the weight
pub record RoomForRest (f : MatchState) : Type 0 where
  pub free_lines : length (tape f) + weight f ≤ f.tape.limit
  pub free_stamps : f.session.next_stamp + weight f ≤ STAMPS_END

pub next_has_room : (e : Event) (f : MatchState) → IsNext e f → suc (weight (apply e f)) ≤ weight f → RoomForRest f → RoomFor e f
next_has_room e f i w h = let a = one_line_each e f i in record { free_lines = omega (arith, h.free_lines, a.0); free_stamps = λ _. omega (arith, h.free_stamps) }

pub rest_has_room : (e : Event) (f : MatchState) → IsNext e f → suc (weight (apply e f)) ≤ weight f → RoomForRest f → RoomForRest (apply e f)
rest_has_room e f i w h =
    let a = one_line_each e f i in
    let r = next_has_room e f i w h in
    let d : length (tape (apply e f)) ≡ length (event_lines e) + length (tape f) = ap length (tape_is e f r) ∙ length-append (event_lines e) (tape f) in
    record { free_lines = omega (arith, h.free_lines, a.0, limit_is e f); free_stamps = omega (arith, h.free_stamps, a.1, stamp_is e f r) }

pub run_events_runs : (k : ℕ) (f : MatchState) → Consistent f → RoomForRest f → RunsTo f (run_events k f)
run_events_runs zero f s h = subst (RunsTo f) (sym (run_events_zero f)) at_end
run_events_runs (suc k) f s h = go (next_event f) refl (run_events_runs k)
  where
    go : (m : Option Event) → next_event f ≡ m → ((f : MatchState) → Consistent f → RoomForRest f → RunsTo f (run_events k f)) → RunsTo f (run_events (suc k) f)
    go None n ih = subst (RunsTo f) (sym (run_events_next k f None n)) at_end
    go (Some e) n ih =
        let x = next_may_run e f (is_next e f n) s.queues in
        let w = weight_falls e f n in
        let r = next_has_room e f x.1 w h in
        subst (RunsTo f) (sym (run_events_next k f (Some e) n)) (at_next e x r (ih (apply e f) (consistent_apply e f x.0 r s) (rest_has_room e f x.1 w h)))

pub run_to_rest_runs : (f : MatchState) → Consistent f → RoomForRest f → RunsTo f (run_to_rest f)
unfolding run_to_rest
run_to_rest_runs f s h = run_events_runs (weight f) f s h

-- where the events end, none is next
run_events_at_rest : (k : ℕ) (f : MatchState) → weight f ≤ k → next_event (run_events k f) ≡ None
run_events_at_rest zero f w = go (next_event f) refl
  where
    go : (m : Option Event) → next_event f ≡ m → next_event (run_events 0 f) ≡ None
    go None n = ap next_event (run_events_zero f) ∙ n
    go (Some e) n = absurd (omega (arith, weight_falls e f n))
run_events_at_rest (suc k) f w = go (next_event f) refl (run_events_at_rest k)
  where
    go : (m : Option Event) → next_event f ≡ m → ((f : MatchState) → weight f ≤ k → next_event (run_events k f) ≡ None) → next_event (run_events (suc k) f) ≡ None
    go None n ih = ap next_event (run_events_next k f None n) ∙ n
    go (Some e) n ih = ap next_event (run_events_next k f (Some e) n) ∙ ih (apply e f) (omega (arith, weight_falls e f n))

run_to_rest_at_rest : (f : MatchState) → next_event (run_to_rest f) ≡ None
unfolding run_to_rest
run_to_rest_at_rest f = run_events_at_rest (weight f) f (omega arith)

-- where none is next, no order is incoming and no stop is ripe

unripe_behind : (s : Side) (last : Option Price) (x y : Stop) → StopOnSide s x → StopOnSide s y → ranks_ahead (stop_rank_of y) (stop_rank_of x) ≡ false →
    ripe s last x.trigger ≡ false → ripe s last y.trigger ≡ false
unripe_behind s None x y dx dy b e = e
unripe_behind s (Some p) x y dx dy b e =
    no_riper s p x.trigger y.trigger x.order.turn x.order.number y.order.turn y.order.number dx.2 dy.2 e
    (subst (λ z. ranks_ahead (record { key = stop_key z y.trigger; turn = y.order.turn; number = y.order.number })
    (record { key = stop_key s x.trigger; turn = x.order.turn; number = x.order.number }) ≡ false) dy.0
    (subst (λ z. ranks_ahead (stop_rank_of y) (record { key = stop_key z x.trigger; turn = x.order.turn; number = x.order.number }) ≡ false) dx.0 b))

unripe_list : (s : Side) (last : Option Price) (l : List Stop) → Sorted stop_rank_of l → AllByRecursion (StopOnSide s) l →
    if_ripe s last (waiting_stop (option_map Waiting (slice_get l 0))) ≡ None → AllByRecursion (λ (x : Stop). ripe s last x.trigger ≡ false) l
unripe_list s last [] h d e = tt
unripe_list s last (x ∷ l) h d e = let u = go (ripe s last x.trigger) refl e in (u, behind l h.0 d.1 u)
  where
    go : (b : Bool) → ripe s last x.trigger ≡ b → cond b (Some x) None ≡ None → ripe s last x.trigger ≡ false
    go true k z = let u : ◌≡◌ {A = ℕ} 0 1 = cc in absurd (omega arith)
    go false k z = k

    behind : (l : List Stop) → AllByRecursion (λ y. ranks_ahead (stop_rank_of y) (stop_rank_of x) ≡ false) l → AllByRecursion (StopOnSide s) l → ripe s last x.trigger ≡ false →
        AllByRecursion (λ (x : Stop). ripe s last x.trigger ≡ false) l
    behind [] b c u = tt
    behind (y ∷ l) b c u = (unripe_behind s last x y d.0 c.0 b.0 u, behind l b.1 c.1 u)

none_ripe : (a b : Option Stop) → trigger_event (lower_turn a b) ≡ None → (a ≡ None) × (b ≡ None)
none_ripe None None e = (refl, refl)
none_ripe (Some x) None e = let u : ◌≡◌ {A = ℕ} 0 1 = cc in absurd (omega arith)
none_ripe None (Some y) e = let u : ◌≡◌ {A = ℕ} 0 1 = cc in absurd (omega arith)
none_ripe (Some x) (Some y) e = go (ltb y.order.turn x.order.turn) e
  where
    go : (b : Bool) → trigger_event (cond b (Some (Sell, y)) (Some (Buy, x))) ≡ None → (Some x ≡ None) × (Some y ≡ None)
    go true e = let u : ◌≡◌ {A = ℕ} 0 1 = cc in absurd (omega arith)
    go false e = let u : ◌≡◌ {A = ℕ} 0 1 = cc in absurd (omega arith)

-- a consistent match state in which nothing is next
pub record Quiescent (f : MatchState) : Type 0 where
  pub consistent : Consistent f
  pub idle : f.incoming ≡ None
  pub unripe : Unripe f.session.last_price f.queues

quiescent_rest : (f : MatchState) → Consistent f → next_event f ≡ None → Quiescent f
quiescent_rest f s e = go f.incoming refl e
  where
    go : (m : Option Order) → f.incoming ≡ m → next_given m f ≡ None → Quiescent f
    go (Some o) h k = absurd (let z : ◌≡◌ {A = ℕ} 0 1 = cc in omega arith)
    go None h k =
        let u = none_ripe (if_ripe Buy f.session.last_price (first_stop Buy f.queues)) (if_ripe Sell f.session.last_price (first_stop Sell f.queues)) k in
        record {
          consistent = s;
          idle = h;
          unripe = elim [
            | Buy ↦ unripe_list Buy f.session.last_price f.queues.waits.buy (s.queues.stops_sorted Buy) (s.queues.stops_on_side Buy) u.0
            | Sell ↦ unripe_list Sell f.session.last_price f.queues.waits.sell (s.queues.stops_sorted Sell) (s.queues.stops_on_side Sell) u.1
          ];
        }

pub quiescent_run_to_rest : (f : MatchState) → Consistent f → RoomForRest f → Quiescent (run_to_rest f)
quiescent_run_to_rest f s h = quiescent_rest (run_to_rest f) (runs_to_consistent (run_to_rest_runs f s h) s) (run_to_rest_at_rest f)
