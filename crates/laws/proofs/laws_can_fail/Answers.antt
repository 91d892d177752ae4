use Rattle.laws.proofs.laws_can_fail.Goals as goal
use Rattle.laws.proofs.LawsCanFail.{laws_can_fail}

pub returns : goal.returns
returns c = laws_can_fail
