use Rattle.laws.proofs.reach_means.Goals as goal
use Rattle.laws.proofs.WholeOrNone.{reach_means, always_filled}

pub returns : goal.returns
returns c = record { lots = reach_means; filled = always_filled }
