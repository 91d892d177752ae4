-- What one more step keeps besides the laws, whatever setting up and steps led to this state.
use Rattle.std.specs.Prelude.{◌≡◌, ℕ, List, Ok}
use Rattle.books.specs.Model.{Queues}
use Rattle.forms.specs.declared.form.Form.{Form}
use Rattle.forms.specs.declared.form.Form.TheVariants.{Entry}
use Rattle.matching.specs.declared.new_order.NewOrder.{NewOrder}
use Rattle.matching.specs.Running.{total}
use Rattle.validation.specs.Entries.{validate_entry}
use Rattle.venue.specs.Days.{State, set_up, answer, step}
use Rattle.laws.specs.Accounts.{traded_lots}
use Rattle.laws.specs.Runs.{session_of, after}
use Rattle.laws.specs.WithinRoom.{Trace, state_between_steps}
use Rattle.laws.specs.Reaching.{Filled}

-- neither lines nor stamps run out within the step, and a put is refused only where its queue is
-- full (rules 7)
abbrev pub StepWithinRoom : Form → State → Type 0
StepWithinRoom form state =
    (day stamp : ℕ) (q : Queues) (limit : ℕ) (forms : List Form) →
    state ≡ after forms (set_up day stamp q limit) →
    Trace (state_between_steps state) (state_between_steps (step form state))

-- an accepted entry that wants all, or a minimum, trades that or nothing (rules 8)
abbrev pub StepFilled : Form → State → Type 0
StepFilled (Entry form) state =
    (day stamp : ℕ) (q : Queues) (limit : ℕ) (forms : List Form) →
    state ≡ after forms (set_up day stamp q limit) →
    (new_order : NewOrder) →
    validate_entry form ≡ Ok new_order → answer (Entry form) state ≡ Ok tt →
    Filled new_order
    (total (traded_lots (session_of state.day).next_stamp) (step (Entry form) state).tape.lines)
StepFilled _ state = Unit {0}
