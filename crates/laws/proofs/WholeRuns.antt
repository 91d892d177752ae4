-- Whole runs: the laws hold after setting up and after every step.
use Rattle.std.proofs.Common.{◌≡◌, ℕ, ◌+◌, ◌-◌, ◌≤◌, List, [], ◌∷◌, ◌++◌, length, take, None, Ok, Err, Option, Result, sym, refl, ap, ◌∙◌, subst, le_refl, arith, length-append}
use Rattle.std.proofs.lemmas.List.{take_all, take-append-le}
use Rattle.orders.specs.declared.side.Side.TheVariants.{Buy, Sell}
use Rattle.orders.specs.declared.order.Order.{Order}
use Rattle.books.specs.declared.queue.Queue.TheVariants.{Orders, Stops}
use Rattle.books.specs.declared.queue.Queue.{Queue}
use Rattle.books.specs.Model.{Queues, count, capacity, cleared}
use Rattle.tapes.specs.declared.line.Line.{Line}
use Rattle.tapes.specs.Logs.{Log}
use Rattle.forms.specs.declared.form.Form.{Form}
use Rattle.forms.specs.declared.form.Form.TheVariants.{Entry, Change, Cancel, MassCancel, Closing, Opening}
use Rattle.forms.specs.declared.refusal.Refusal.{Refusal}
use Rattle.matching.specs.Model.{MatchState}
use Rattle.venue.specs.declared.day.Day.{Day}
use Rattle.venue.specs.declared.day.Day.TheVariants.{Open, Closed}
use Rattle.venue.specs.Rooms.{lines_free, needed}
use Rattle.venue.specs.Steps.{opening_result, cancel_day_orders, answered}
use Rattle.venue.specs.Days.{State, between_steps, at_least_1, set_up, after_closing, after_opening, answer_on, step_on, answer, step}
use Rattle.laws.specs.Tally.{Tally, starting}
use Rattle.laws.specs.Fair.{FairLines}
use Rattle.laws.specs.Runs.{session_of, Lawful, Throughout, request, step_lines, tally_fed, tallied, FairThroughout, after, tally_after, HoldsAfter}
use Rattle.laws.specs.WithinRoom.{state_between_steps, AlwaysWithinRoom}
use Rattle.laws.proofs.LinesAndStamps.{tape}
use Rattle.laws.proofs.RunsToRest.{Quiescent}
use Rattle.laws.proofs.TallyAgrees.{TallyAgrees}
use Rattle.laws.proofs.ValidatedRanges.{IfOk}
use Rattle.laws.proofs.EachForm.{AfterStep, after_step_unchanged, after_step_entry, after_step_change, after_step_cancel, after_step_mass_cancel, after_step_day_orders, lines_ok, removals_have_room}

nothing_incoming : (g : MatchState) → g.incoming ≡ None → g ≡ between_steps g.queues g.tape g.session
nothing_incoming g e = ap (λ (h : Option Order). with_incoming h) e
  where
    with_incoming : Option Order → MatchState
    with_incoming h = record { queues = g.queues; incoming = h; tape = g.tape; session = g.session }

after_step_between : (form : Form) (t : Tally) (f : MatchState) (r : Result (Unit {0}) Refusal) (g : MatchState) → AfterStep form t f r g →
    AfterStep form t f r (between_steps g.queues g.tape g.session)
after_step_between form t f r g e = subst (AfterStep form t f r) (nothing_incoming g e.quiescent.idle) e

after_step_closing : (r : Result (Unit {0}) Refusal) (d : ℕ) (f : MatchState) (t : Tally) → IfOk (λ _. length (tape f) + needed f.queues ≤ f.tape.limit) r → Quiescent f →
    TallyAgrees t f → AfterStep Closing t f r (state_between_steps (after_closing r d f))
after_step_closing (Ok x) d f t h c m = after_step_between Closing t f (Ok tt) (cancel_day_orders f) (after_step_day_orders f t (removals_have_room f h) c m)
after_step_closing (Err e) d f t h c m = after_step_between Closing t f (Err e) f (after_step_unchanged Closing t f (Err e) c m)

after_step_opening : (form : _) (r : Result ℕ Refusal) (d : ℕ) (f : MatchState) (t : Tally) → Quiescent f → TallyAgrees t f →
    AfterStep (Opening form) t f (answered r) (state_between_steps (after_opening r d f))
after_step_opening form (Ok x) d f t c m = after_step_between (Opening form) t f (Ok tt) f (after_step_unchanged (Opening form) t f (Ok tt) c m)
after_step_opening form (Err e) d f t c m = after_step_between (Opening form) t f (Err e) f (after_step_unchanged (Opening form) t f (Err e) c m)

after_step_on : (d : Day) (form : Form) (q : Queues) (r : Log) (t : Tally) → Quiescent (between_steps q r (session_of d)) → TallyAgrees t (between_steps q r (session_of d)) →
    AfterStep form t (between_steps q r (session_of d)) (answer_on d form q r) (state_between_steps (step_on d form q r))
after_step_on (Open o) (Entry form) q r t c m = after_step_between (Entry form) t _ _ _ (after_step_entry form (between_steps q r o.session) t c m)
after_step_on (Open o) (Change form) q r t c m = after_step_between (Change form) t _ _ _ (after_step_change form (between_steps q r o.session) t c m)
after_step_on (Open o) (Cancel form) q r t c m = after_step_between (Cancel form) t _ _ _ (after_step_cancel form (between_steps q r o.session) t c m)
after_step_on (Open o) (MassCancel form) q r t c m = after_step_between (MassCancel form) t _ _ _ (after_step_mass_cancel form (between_steps q r o.session) t c m)
after_step_on (Open o) Closing q r t c m = after_step_closing (lines_free q r) o.day (between_steps q r o.session) t (lines_ok (between_steps q r o.session)) c m
after_step_on (Open o) (Opening form) q r t c m = after_step_unchanged (Opening form) t (between_steps q r o.session) _ c m
after_step_on (Closed o) (Entry form) q r t c m = after_step_unchanged (Entry form) t (between_steps q r o.session) _ c m
after_step_on (Closed o) (Change form) q r t c m = after_step_unchanged (Change form) t (between_steps q r o.session) _ c m
after_step_on (Closed o) (Cancel form) q r t c m = after_step_unchanged (Cancel form) t (between_steps q r o.session) _ c m
after_step_on (Closed o) (MassCancel form) q r t c m = after_step_unchanged (MassCancel form) t (between_steps q r o.session) _ c m
after_step_on (Closed o) Closing q r t c m = after_step_unchanged Closing t (between_steps q r o.session) _ c m
after_step_on (Closed o) (Opening form) q r t c m = after_step_opening form (opening_result form o.day q r) o.day (between_steps q r o.session) t c m

after_step : (form : Form) (s : State) (t : Tally) → Quiescent (state_between_steps s) → TallyAgrees t (state_between_steps s) → AfterStep form t (state_between_steps s) (answer form s) (state_between_steps (step form s))
after_step form s t c m = after_step_on s.day form s.queues s.tape t c m

-- the lines that a step wrote
taken_front : (a b : List Line) → take (length (a ++ b) - length b) (a ++ b) ≡ a
taken_front a b =
    let n : length (a ++ b) - length b ≡ length a = omega (arith, length-append a b) in
    rw n (take-append-le (length a) a b (le_refl (length a)) ∙ take_all (length a) a (le_refl (length a)))

written_is : (s s' : State) (lines : List Line) → s'.tape.lines ≡ lines ++ s.tape.lines → step_lines s s' ≡ lines
written_is s s' lines e = subst (λ l. take (length l - length s.tape.lines) l ≡ lines) (sym e) (taken_front lines s.tape.lines)

matches_step : (form : Form) (s : State) (t : Tally) → Quiescent (state_between_steps s) → TallyAgrees t (state_between_steps s) → TallyAgrees (tallied form s t) (state_between_steps (step form s))
matches_step form s t c m =
    let k = after_step form s t c m in
    subst (λ l. TallyAgrees (tally_fed (answer form s) (request form) l t) (state_between_steps (step form s))) (sym (written_is s (step form s) k.lines k.tape_grew)) k.matches

lawful_quiescent : (s : State) → Quiescent (state_between_steps s) → Lawful s
lawful_quiescent s c = record { balanced = λ n. omega (arith, c.consistent.accounted.balanced n); uncrossed = c.consistent.queues.uncrossed; unripe = c.unripe }

pub always_lawful : (forms : List Form) (s : State) (t : Tally) → Quiescent (state_between_steps s) → TallyAgrees t (state_between_steps s) → Throughout Lawful forms s
always_lawful [] s t c m = lawful_quiescent s c
always_lawful (form ∷ forms) s t c m = (lawful_quiescent s c, always_lawful forms (step form s) (tallied form s t) (after_step form s t c m).quiescent (matches_step form s t c m))

pub always_fair : (forms : List Form) (s : State) (t : Tally) → Quiescent (state_between_steps s) → TallyAgrees t (state_between_steps s) → FairThroughout forms s t
always_fair [] s t c m = tt
always_fair (form ∷ forms) s t c m =
    let k = after_step form s t c m in (
      subst (λ l. FairLines (request form) l t) (sym (written_is s (step form s) k.lines k.tape_grew)) k.fair,
      always_fair forms (step form s)
          (tallied form s t) k.quiescent (matches_step form s t c m),
    )

-- setting up

empty_bounded : (q : Queues) (n : Queue) → count n (cleared q) ≤ capacity n (cleared q)
empty_bounded q (Orders Buy) = omega arith
empty_bounded q (Orders Sell) = omega arith
empty_bounded q (Stops Buy) = omega arith
empty_bounded q (Stops Sell) = omega arith

pub quiescent_set_up : (day stamp : ℕ) (q : Queues) (limit : ℕ) → Quiescent (state_between_steps (set_up day stamp q limit))
quiescent_set_up day stamp q limit = record {
  consistent = record {
    queues = record {
      bounded = empty_bounded q;
      sorted = elim [ Buy ↦ tt | Sell ↦ tt ];
      stops_sorted = elim [ Buy ↦ tt | Sell ↦ tt ];
      on_side = elim [ Buy ↦ tt | Sell ↦ tt ];
      stops_on_side = elim [ Buy ↦ tt | Sell ↦ tt ];
      uncrossed = tt;
    };
    accounted = record { balanced = λ n. refl; unused = λ n _. refl; numbers_unique = λ n. omega arith; quantities_known = refl };
    incoming_ready = tt;
    turns_below = refl;
  };
  idle = refl;
  unripe = elim [ Buy ↦ tt | Sell ↦ tt ];
}

pub tally_agrees_set_up : (day stamp : ℕ) (q : Queues) (limit : ℕ) → TallyAgrees (starting (at_least_1 stamp)) (state_between_steps (set_up day stamp q limit))
tally_agrees_set_up day stamp q limit = record { sums = λ g. refl; turns = refl }

-- after any list of steps, and after setting up and any list of steps

quiescent_after : (forms : List Form) (s : State) (t : Tally) → Quiescent (state_between_steps s) → TallyAgrees t (state_between_steps s) →
    Quiescent (state_between_steps (after forms s)) × TallyAgrees (tally_after forms s t) (state_between_steps (after forms s))
quiescent_after [] s t c m = (c, m)
quiescent_after (form ∷ forms) s t c m = quiescent_after forms (step form s) (tallied form s t) (after_step form s t c m).quiescent (matches_step form s t c m)

pub after_set_up : (day stamp : ℕ) (q : Queues) (limit : ℕ) (forms : List Form) →
    Quiescent (state_between_steps (after forms (set_up day stamp q limit)))
    × TallyAgrees (tally_after forms (set_up day stamp q limit) (starting (at_least_1 stamp))) (state_between_steps (after forms (set_up day stamp q limit)))
after_set_up day stamp q limit forms =
    quiescent_after forms (set_up day stamp q limit) (starting (at_least_1 stamp)) (quiescent_set_up day stamp q limit) (tally_agrees_set_up day stamp q limit)

pub holds_after : (form : Form) (s : State) → HoldsAfter form s
holds_after form s day stamp q limit forms e =
    let z : State = set_up day stamp q limit in
    let t : Tally = starting (at_least_1 stamp) in
    subst (λ (s : State). Lawful (step form s) × FairLines (request form) (step_lines s (step form s)) (tally_after forms z t)) (sym e)
    (next (after forms z) (tally_after forms z t) (after_set_up day stamp q limit forms))
  where
    next : (s : State) (t : Tally) → Quiescent (state_between_steps s) × TallyAgrees t (state_between_steps s) → Lawful (step form s) × FairLines (request form) (step_lines s (step form s)) t
    next s t h = let k = after_step form s t h.0 h.1 in
        (lawful_quiescent (step form s) k.quiescent, subst (λ l. FairLines (request form) l t) (sym (written_is s (step form s) k.lines k.tape_grew)) k.fair)

pub always_within_room : AlwaysWithinRoom
always_within_room day stamp q limit forms form =
    let z : State = set_up day stamp q limit in
    let h = after_set_up day stamp q limit forms in
    (after_step form (after forms z) (tally_after forms z (starting (at_least_1 stamp))) h.0 h.1).trace
