-- What one more step keeps, as a case of what holds of every run.
use Rattle.std.proofs.Common.{◌≡◌, Ok, sym, subst}
use Rattle.forms.specs.declared.form.Form.{Form}
use Rattle.forms.specs.declared.form.Form.TheVariants.{Entry}
use Rattle.matching.specs.declared.new_order.NewOrder.{NewOrder}
use Rattle.matching.specs.Running.{total}
use Rattle.validation.specs.Entries.{validate_entry}
use Rattle.venue.specs.Days.{State, answer, step}
use Rattle.laws.specs.Accounts.{traded_lots}
use Rattle.laws.specs.Runs.{session_of}
use Rattle.laws.specs.WithinRoom.{Trace, state_between_steps}
use Rattle.laws.specs.Reaching.{Filled}
use Rattle.laws.specs.OneStep.{StepWithinRoom, StepFilled}
use Rattle.laws.proofs.WholeRuns.{always_within_room}
use Rattle.laws.proofs.WholeOrNone.{always_filled}

pub step_within_room : (form : Form) (s : State) → StepWithinRoom form s
step_within_room form s day stamp q limit forms e = subst (λ (s : State). Trace (state_between_steps s) (state_between_steps (step form s))) (sym e) (always_within_room day stamp q limit forms form)

pub step_filled : (form : Form) (s : State) → StepFilled form s
step_filled (Entry form) s = λ day stamp q limit forms e.
    subst (λ (s : State). (a : NewOrder) → validate_entry form ≡ Ok a → answer (Entry form) s ≡ Ok tt → Filled a (total (traded_lots (session_of s.day).next_stamp) (step (Entry form) s).tape.lines)) (sym e)
    (λ a h k. always_filled day stamp q limit forms form a h k)
step_filled _ s = tt
