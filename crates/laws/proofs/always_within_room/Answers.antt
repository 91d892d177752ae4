use Rattle.laws.proofs.always_within_room.Goals as goal
use Rattle.laws.proofs.WholeRuns.{always_within_room}

pub returns : goal.returns
returns c = always_within_room
