use Rattle.sheets.specs.Sheets.{rows_left}
use Rattle.sheetcases.proofs.outcome.read_rows.Given as goal

abbrev pub decreases-loop-drawn : goal.decreases-loop-drawn
decreases-loop-drawn l = rows_left l.sheet
