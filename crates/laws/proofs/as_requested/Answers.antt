use Rattle.laws.proofs.as_requested.Goals as goal
use Rattle.laws.proofs.AsRequested.{entered_as_requested, changed_as_requested}

pub returns : goal.returns
returns c = record { entered = entered_as_requested; changed = changed_as_requested }
