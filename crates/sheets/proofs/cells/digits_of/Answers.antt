use Rattle.sheets.proofs.DigitValues.{front_digits}
use Rattle.sheets.proofs.cells.digits_of.Goals as goal

pub returns-clause-all : goal.returns-clause-all
returns-clause-all c = rw c.digit_count.ensures (front_digits c.part_of-start.result.now)
