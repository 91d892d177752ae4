use Rattle.std.proofs.Common.{refl}
use Rattle.std.specs.Fmt.{digits}
use Rattle.sheet_writer.proofs.row.worked_sheet.Goals as goal

pub returns : goal.returns
unfolding digits
returns c = record { two_rows = refl; no_rows = refl }
