-- An entry that wants all trades whole or not at all, one with a minimum at least that or not at all; and what reach means, in every state
-- of a run.
use Rattle.std.proofs.Common.{◌≡◌, ℕ, ◌+◌, ◌≤◌, Bool, true, false, cond, ◌&&◌, ◌||◌, eqb, ltb, ◌++◌, Ok, Err, Result, sym, refl, ap, ◌∙◌, subst, inl, inr, arith}
use Rattle.std.proofs.lemmas.Bool.{cond-true, both_ways, or_parts, ltb-false, eq-eqb}
use Rattle.orders.specs.declared.side.Validity.{Validity}
use Rattle.orders.specs.declared.side.Validity.TheVariants.{Day as ForDay, Gtc, Ioc, Fok}
use Rattle.orders.specs.declared.price.Price.{Price}
use Rattle.orders.specs.declared.order.Order.{Order}
use Rattle.orders.specs.declared.row.OrderRow.{OrderRow}
use Rattle.orders.specs.Sides.{opposite, is_immediate}
use Rattle.books.specs.Model.{Queues, at}
use Rattle.tapes.specs.declared.cause.Cause.{Cause}
use Rattle.tapes.specs.declared.cause.Cause.TheVariants.{ShortReach, NotPut}
use Rattle.tapes.specs.Logs.{Log}
use Rattle.forms.specs.declared.form.EntryForm.{EntryForm}
use Rattle.forms.specs.declared.form.Form.TheVariants.{Entry}
use Rattle.forms.specs.declared.refusal.Refusal.{Refusal}
use Rattle.forms.specs.declared.refusal.Refusal.TheVariants.{WrongDay}
use Rattle.matching.specs.declared.new_order.NewOrder.{NewOrder}
use Rattle.matching.specs.Model.{MatchState, Event, accepts, accepts_and_cancels, accepts_unmatched, apply}
use Rattle.matching.specs.Running.{total, run_to_rest}
use Rattle.matching.specs.Reach.{reach}
use Rattle.matching.specs.Entering.{entered_order, all_or_none, falls_short, enter}
use Rattle.forms.specs.Results.{and_then}
use Rattle.validation.specs.Combinations.{is_stop}
use Rattle.validation.specs.Entries.{validate_entry}
use Rattle.venue.specs.declared.day.Day.{Day}
use Rattle.venue.specs.declared.day.Day.TheVariants.{Open, Closed}
use Rattle.venue.specs.Steps.{answered, after_answer, entry_answer}
use Rattle.venue.specs.Days.{State, between_steps, set_up, answer_on, step_on}
use Rattle.laws.specs.Accounts.{quantity_of, traded_lots, cancelled_lots}
use Rattle.laws.specs.Runs.{session_of, after}
use Rattle.laws.specs.WithinRoom.{state_between_steps, event_lines}
use Rattle.laws.specs.Reaching.{ReachMeans, Filled, AlwaysFilled}
use Rattle.laws.proofs.ArrivalCases.{arrival_cases}
use Rattle.laws.proofs.RowsInBounds.{order_from_row}
use Rattle.laws.proofs.EventsApply.{MayApply}
use Rattle.laws.proofs.LinesAndStamps.{tape, tape_is}
use Rattle.laws.proofs.RunsToRest.{consistent_apply, Quiescent, quiescent_run_to_rest, run_to_rest_runs}
use Rattle.laws.proofs.EntryArrives.{ValidEntry, may_apply_arrival}
use Rattle.laws.proofs.RoomSuffices.{RoomForStep, BeginsStep, first_has_room, rest_has_room_at_first, begins_arrival}
use Rattle.laws.proofs.ValidatedRanges.{IfOk}
use Rattle.laws.proofs.EachForm.{EntryGiven, entry_given}
use Rattle.laws.proofs.WholeRuns.{after_set_up}
use Rattle.laws.proofs.ReachFalls.{reach_is_unlimited_trade}
use Rattle.laws.proofs.TradesReach.{runs_to_more, runs_to_quantity, standing_turns_drawn, traded_on, run_to_rest_trades}

-- an order that wants all is immediate
all_is_immediate : (v : Validity) → all_or_none v ≡ true → is_immediate v ≡ true
all_is_immediate ForDay e = e
all_is_immediate Gtc e = e
all_is_immediate Ioc e = refl
all_is_immediate Fok e = refl

module _ (a : NewOrder) (f : MatchState) (p : ValidEntry a) (s : RoomForStep f) (c : Quiescent f) where
  -- after an entry's first event and the run to rest, the entry is filled as it asked
  abbrev FilledAfter : Event → Type 0
  FilledAfter e = BeginsStep e → MayApply e f → Filled a (traded_on f.session.next_stamp (run_to_rest (apply e f)))

  -- nothing was traded under a number that is not drawn yet
  none_yet : traded_on f.session.next_stamp f ≡ 0
  none_yet = omega (arith, c.consistent.accounted.balanced f.session.next_stamp, c.consistent.accounted.unused f.session.next_stamp (omega arith))

  -- no more is traded than was asked, less what was cancelled
  traded_at_most : (e : Event) (b : BeginsStep e) (fit : MayApply e f) →
      traded_on f.session.next_stamp (run_to_rest (apply e f)) + total (cancelled_lots f.session.next_stamp) (event_lines e ++ tape f) ≤ quantity_of f.session.next_stamp (event_lines e ++ tape f)
  traded_at_most e b fit =
      let n : ℕ = f.session.next_stamp in
      let room = first_has_room e f b fit s in
      let enough = rest_has_room_at_first e f b fit s in
      let consistent = consistent_apply e f fit room c.consistent in
      let leads = run_to_rest_runs (apply e f) consistent enough in
      let t : total (cancelled_lots n) (tape (apply e f)) ≡ total (cancelled_lots n) (event_lines e ++ tape f) = ap (total (cancelled_lots n)) (tape_is e f room) in
      let q : quantity_of n (tape (apply e f)) ≡ quantity_of n (event_lines e ++ tape f) = ap (quantity_of n) (tape_is e f room) in
      omega (arith, runs_to_more (cancelled_lots n) leads, runs_to_quantity n leads, (quiescent_run_to_rest (apply e f) consistent enough).consistent.accounted.balanced n)

  whole : (price : Price) → (entered_order a price f.session.next_stamp).open_lots ≡ a.quantity
  whole price = ap (λ (r : OrderRow). r.open_lots) (order_from_row a price f.session.next_stamp p.allowed)

  at_number : (lots old : ℕ) → cond (eqb f.session.next_stamp f.session.next_stamp) lots old ≡ lots
  at_number lots old = cond-true (eqb f.session.next_stamp f.session.next_stamp) lots old (eq-eqb f.session.next_stamp f.session.next_stamp refl)

  nothing : (lots : ℕ) → lots ≡ 0 → Filled a lots
  nothing lots e = (λ _. inl e, inl e)

  filled_accepts_and_cancels : (cause : Cause) (price : Price) → FilledAfter (accepts_and_cancels cause (entered_order a price f.session.next_stamp))
  filled_accepts_and_cancels cause price b fit =
      let n : ℕ = f.session.next_stamp in
      let o : Order = entered_order a price n in
      nothing (traded_on n (run_to_rest (apply (accepts_and_cancels cause o) f))) (omega (arith, traded_at_most (accepts_and_cancels cause o) b fit, at_number o.open_lots 0, at_number o.quantity (quantity_of n (tape f))))

  filled_accepts_unmatched : FilledAfter (accepts_unmatched f.session.next_stamp a.quantity)
  filled_accepts_unmatched b fit =
      let n : ℕ = f.session.next_stamp in
      nothing (traded_on n (run_to_rest (apply (accepts_unmatched n a.quantity) f))) (omega
      (arith, traded_at_most (accepts_unmatched n a.quantity) b fit, at_number a.quantity 0, at_number a.quantity (quantity_of n (tape f))))

  filled_accepts : (price : Price) → falls_short a (entered_order a price f.session.next_stamp) f.queues ≡ false → FilledAfter (accepts (entered_order a price f.session.next_stamp))
  filled_accepts price e b fit =
      let n : ℕ = f.session.next_stamp in
      let o : Order = entered_order a price n in
      let ev : Event = accepts o in
      let R : ℕ = reach o (at (opposite o.side) f.queues.stands) in
      let room = first_has_room ev f b fit s in
      let k = or_parts (ltb R a.minimum) (all_or_none a.validity && ltb R a.quantity) e in
      let least = ltb-false R a.minimum k.0 in
      let at_least_lem = run_to_rest_trades (apply ev f) o (consistent_apply ev f fit room c.consistent) (rest_has_room_at_first ev f b fit s) refl in
      let now : traded_on n (apply ev f) ≡ 0 + traded_on n f = ap (total (traded_lots n)) (tape_is ev f room) in
      let top = traded_at_most ev b fit in
      let q = at_number o.quantity (quantity_of n (tape f)) in
      let w = whole price in
      let lots : ℕ = traded_on n (run_to_rest (apply ev f)) in (
        λ all. inr (whole_of (all_or_none a.validity) all k.1 (λ r. (let z : a.quantity ≤ R = r in let y : lots ≡ a.quantity = omega
            (arith, none_yet) in y))),
        inr (let z : a.minimum ≤ lots = omega (arith, p.least) in z),
      )
    where
      whole_of : {A : Type 0} {R Q : ℕ} (v : Bool) → v ≡ true → (v && ltb R Q) ≡ false → (Q ≤ R → A) → A
      whole_of {A} {R} {Q} true e k next = next (ltb-false R Q k)
      whole_of {A} {R} {Q} false e k next = absurd (both_ways false refl e)

  filled_stop : is_stop a.order_type ≡ true → (lots : ℕ) → Filled a lots
  filled_stop e lots =
      let k = plain (is_stop a.order_type) (is_immediate a.validity) (ltb 0 a.minimum) e p.stop in
      ((λ all. absurd (both_ways (is_immediate a.validity) k.0 (all_is_immediate a.validity all))), inr (omega (arith, ltb-false 0 a.minimum k.1)))
    where
      plain : (x y z : Bool) → x ≡ true → (x && (y || z)) ≡ false → (y ≡ false) × (z ≡ false)
      plain true y z e h = or_parts y z h
      plain false y z e h = absurd (both_ways false refl e)

  filled_enter : Filled a (traded_on f.session.next_stamp (enter a f))
  filled_enter =
      arrival_cases a f.session.next_stamp f.queues FilledAfter (λ price _ e. filled_accepts price e) (λ price _. filled_accepts_and_cancels ShortReach price) filled_accepts_unmatched
      (λ limit trigger k _ _ _. filled_stop (ap is_stop k) _) (λ limit _ _ _ _. filled_accepts_and_cancels NotPut limit)
      (begins_arrival a f.session.next_stamp f.queues) (may_apply_arrival a f p c)

-- in every state of a run

filled_answered : (form : EntryForm) (f : MatchState) (a : NewOrder) (r : Result NewOrder Refusal) → Quiescent f → IfOk (EntryGiven form f) r →
    validate_entry form ≡ Ok a → answered r ≡ Ok tt → Filled a (traded_on f.session.next_stamp (after_answer enter r f))
filled_answered form f a (Ok b) c h e k =
    let z : b ≡ a = same b a (sym h.2 ∙ e) in
    subst (λ (x : NewOrder). Filled a (traded_on f.session.next_stamp (enter x f))) (sym z) (filled_enter a f (subst ValidEntry z h.0) h.1 c)
  where
    same : (x y : NewOrder) → ◌≡◌ {A = Result NewOrder Refusal} (Ok x) (Ok y) → x ≡ y
    same x y e = cc
filled_answered form f a (Err x) c h e k = let z : ◌≡◌ {A = ℕ} 0 1 = cc in absurd (omega arith)

filled_on : (d : Day) (form : EntryForm) (q : Queues) (r : Log) (a : NewOrder) → Quiescent (between_steps q r (session_of d)) → validate_entry form ≡ Ok a →
    answer_on d (Entry form) q r ≡ Ok tt → Filled a (total (traded_lots (session_of d).next_stamp) (step_on d (Entry form) q r).tape.lines)
filled_on (Open o) form q r a c e k =
    let f : MatchState = between_steps q r o.session in
    filled_answered form f a (entry_answer form f) c (entry_given form f) e k
filled_on (Closed o) form q r a c e k = absurd (never (validate_entry form) k)
  where
    never : (x : Result NewOrder Refusal) → ◌≡◌ {A = Result (Unit {0}) Refusal} (and_then {A = NewOrder} {B = Unit {0}} x (λ _. Err WrongDay)) (Ok tt) → ⊥
    never (Ok x) z = let y : ◌≡◌ {A = ℕ} 0 1 = cc in omega arith
    never (Err x) z = let y : ◌≡◌ {A = ℕ} 0 1 = cc in omega arith

pub always_filled : AlwaysFilled
always_filled day stamp q limit forms form a e k =
    let s : State = after forms (set_up day stamp q limit) in
    let c = (after_set_up day stamp q limit forms).0 in
    filled_on s.day form s.queues s.tape a c e k

pub reach_means : ReachMeans
reach_means day stamp q limit forms o trades m =
    let f : MatchState = state_between_steps (after forms (set_up day stamp q limit)) in
    let c = (after_set_up day stamp q limit forms).0 in
    let y = opposite o.side in
    reach_is_unlimited_trade trades f.session.next_stamp o (at (opposite o.side) f.queues.stands) (c.consistent.queues.sorted y) (c.consistent.queues.on_side y) (standing_turns_drawn y f c.consistent.turns_below) m
