use Rattle.std.proofs.Common.{rules}
use Rattle.validation.proofs.cells.Bounds.read.Goals as goal

-- what try_from answered is the number that the clause asks for
pub returns-in-Ok : goal.returns-in-Ok
returns-in-Ok g c = (c.try_from.result, c.try_from.ensures, search rules)

pub returns-in_default : goal.returns-in_default
returns-in_default g c = (c.try_from.result, c.try_from.ensures, search rules)
