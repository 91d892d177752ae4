-- What each step answers, and what an accepted one does.
use Rattle.std.specs.Prelude.{ℕ, Some, None, Ok, Err, Result, nat_le, nat_lt, if◌then◌else◌}
use Rattle.orders.specs.declared.order.Order.{Order}
use Rattle.books.specs.Model.{Queues}
use Rattle.tapes.specs.Logs.{Log}
use Rattle.tapes.specs.declared.cause.Cause.TheVariants.{Requested, DayClosed}
use Rattle.forms.specs.declared.form.EntryForm.{EntryForm}
use Rattle.forms.specs.declared.form.ChangeForm.{ChangeForm}
use Rattle.forms.specs.declared.form.CancelForm.{CancelForm}
use Rattle.forms.specs.declared.form.MassCancelForm.{MassCancelForm}
use Rattle.forms.specs.declared.form.OpeningForm.{OpeningForm}
use Rattle.forms.specs.declared.refusal.Refusal.{Refusal}
use Rattle.forms.specs.declared.refusal.Refusal.TheVariants.{QuantityTraded, DisclosedBarred, DayNotLater}
use Rattle.matching.specs.declared.new_order.NewOrder.{NewOrder as Entry}
use Rattle.matching.specs.declared.amendment.Amendment.{Amendment}
use Rattle.matching.specs.declared.removal.CancelFilter.{CancelFilter}
use Rattle.matching.specs.declared.removal.Removal.TheVariants.{Matching, DayOrders}
use Rattle.matching.specs.Model.{MatchState, cancels_resting, apply}
use Rattle.matching.specs.Entering.{enter}
use Rattle.matching.specs.Changing.{new_quantity, new_disclosed, lots_traded, change_at}
use Rattle.matching.specs.Removing.{removals}
use Rattle.validation.specs.declared.changes.AmendRequest.{AmendRequest}
use Rattle.forms.specs.Results.{and_then}
use Rattle.validation.specs.Combinations.{disclosed_barred}
use Rattle.validation.specs.Entries.{validate_entry}
use Rattle.validation.specs.Changes.{validate_change}
use Rattle.validation.specs.Removals.{validate_cancel, validate_mass_cancel, validate_opening}
use Rattle.venue.specs.declared.lookup.Found.{Found}
use Rattle.venue.specs.declared.plan.AmendPlan.{AmendPlan}
use Rattle.venue.specs.Rooms.{lines_free, stamps_free}
use Rattle.venue.specs.Known.{client_free, firms_record, standing_in}

-- the answer without the plan that an accepted step has
abbrev pub answered : {A : Type 0} → Result A Refusal → Result (Unit {0}) Refusal
answered (Ok _) = Ok tt
answered (Err refusal) = Err refusal

-- an accepted step acts on the match state; a refused one leaves it as it was (rules 7)
abbrev pub after_answer : {A : Type 0} →
    (A → MatchState → MatchState) → Result A Refusal → MatchState → MatchState
after_answer act (Ok plan) state = act plan state
after_answer act (Err _) state = state

-- entry (rules 8; numbers 5)

abbrev pub entry_answer : EntryForm → MatchState → Result Entry Refusal
entry_answer form state =
    and_then (validate_entry form) (λ new_order.
    and_then (lines_free state.queues state.tape) (λ _.
    and_then (stamps_free state.queues state.session) (λ _.
    and_then (client_free new_order.firm new_order.client None state.queues) (λ _.
    Ok new_order))))

abbrev pub after_entry : EntryForm → MatchState → MatchState
after_entry form state = after_answer enter (entry_answer form state) state

-- change (rules 13; numbers 5)

-- the new quantity is above the lots already traded, or 28 (rules 13)
abbrev pub check_quantity : Amendment → Order → Result (Unit {0}) Refusal
check_quantity amendment order =
    if nat_le (new_quantity amendment order) (lots_traded order) then Err QuantityTraded else Ok tt

-- the disclosed after the change fits the quantity, or 29 (rules 13)
abbrev pub check_disclosed : Amendment → Order → Result (Unit {0}) Refusal
check_disclosed amendment order =
    if disclosed_barred (new_quantity amendment order) (new_disclosed amendment order)
    then Err DisclosedBarred
    else Ok tt

-- what the change will do to the record that was found
abbrev pub plan_for : AmendRequest → Found → Result AmendPlan Refusal
plan_for request target =
    and_then (standing_in target.«record») (λ order.
    and_then (check_quantity request.change order) (λ _.
    and_then (check_disclosed request.change order) (λ _.
    Ok (record { change = request.change; at = target.at; order = order }))))

-- no record of the firm but the changed one has the new client number, or 25 (rules 13)
abbrev pub new_client_free : AmendRequest → Queues → Result (Unit {0}) Refusal
new_client_free request queues =
    client_free request.firm request.change.client (Some request.number) queues

abbrev pub change_answer : ChangeForm → MatchState → Result AmendPlan Refusal
change_answer form state =
    and_then (validate_change form) (λ request.
    and_then (lines_free state.queues state.tape) (λ _.
    and_then (stamps_free state.queues state.session) (λ _.
    and_then (firms_record request.firm request.number state.queues) (λ target.
    and_then (new_client_free request state.queues) (λ _.
    plan_for request target)))))

abbrev pub carry_out_plan : AmendPlan → MatchState → MatchState
carry_out_plan plan state = change_at plan.change plan.order.side plan.at plan.order state

abbrev pub after_change_step : ChangeForm → MatchState → MatchState
after_change_step form state = after_answer carry_out_plan (change_answer form state) state

-- cancel and mass cancel (rules 14; numbers 5)

abbrev pub cancel_answer : CancelForm → Queues → Log → Result Found Refusal
cancel_answer form queues tape =
    and_then (validate_cancel form) (λ request.
    and_then (lines_free queues tape) (λ _.
    firms_record request.firm request.number queues))

abbrev pub cancel_found : Found → MatchState → MatchState
cancel_found target state =
    apply (cancels_resting Requested target.queue target.at target.«record») state

abbrev pub after_cancel : CancelForm → MatchState → MatchState
after_cancel form state =
    after_answer cancel_found (cancel_answer form state.queues state.tape) state

abbrev pub mass_cancel_answer : MassCancelForm → Queues → Log → Result CancelFilter Refusal
mass_cancel_answer form queues tape =
    and_then (validate_mass_cancel form) (λ filter.
    and_then (lines_free queues tape) (λ _.
    Ok filter))

abbrev pub cancel_matching : CancelFilter → MatchState → MatchState
cancel_matching filter state = removals (Matching filter) Requested state

abbrev pub after_mass_cancel : MassCancelForm → MatchState → MatchState
after_mass_cancel form state =
    after_answer cancel_matching (mass_cancel_answer form state.queues state.tape) state

-- closing and opening (rules 15; numbers 5)

abbrev pub cancel_day_orders : MatchState → MatchState
cancel_day_orders state = removals DayOrders DayClosed state

-- the day that an opening names, which is later than the present one, or 30 (rules 15)
abbrev pub opening_result : OpeningForm → ℕ → Queues → Log → Result ℕ Refusal
opening_result form day queues tape =
    and_then (validate_opening form) (λ next.
    and_then (lines_free queues tape) (λ _.
    if nat_lt day next then Ok next else Err DayNotLater))
