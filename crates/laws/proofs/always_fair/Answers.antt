use Rattle.laws.proofs.always_fair.Goals as goal
use Rattle.venue.specs.Days.{set_up, at_least_1}
use Rattle.laws.specs.Tally.{starting}
use Rattle.laws.proofs.WholeRuns.{always_fair, quiescent_set_up, tally_agrees_set_up}

pub returns : goal.returns
returns c = λ day stamp q limit forms. always_fair forms (set_up day stamp q limit) (starting (at_least_1 stamp)) (quiescent_set_up day stamp q limit) (tally_agrees_set_up day stamp q limit)
