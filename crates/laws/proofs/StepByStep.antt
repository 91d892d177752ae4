-- A list of steps, taken one by one.
use Rattle.std.proofs.Common.{◌≡◌, ℕ, ◌+◌, ◌<◌, ◌≤◌, List, length, get_or, drop, add-one, drop-cons}
use Rattle.std.proofs.lemmas.List.{drop_all}
use Rattle.forms.specs.declared.form.Form.{Form}
use Rattle.venue.specs.Days.{State, step}
use Rattle.laws.specs.Runs.{after}

-- the list from a position on, and from its end
pub one_step : (forms : List Form) (i : ℕ) (d : Form) (s : State) → i < length forms → after (drop i forms) s ≡ after (drop (i + 1) forms) (step (get_or forms i d) s)
one_step forms i d s h = rw (add-one, drop-cons forms i d)

pub no_step : (forms : List Form) (i : ℕ) (s : State) → length forms ≤ i → after (drop i forms) s ≡ s
no_step forms i s h = rw (drop_all i forms h)
