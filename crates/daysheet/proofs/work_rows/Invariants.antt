use Rattle.sheets.specs.Sheets.{rows_left}
use Rattle.daysheet.proofs.work_rows.Given as goal

-- each pass through the loop draws a row
abbrev pub decreases-loop-drawn : goal.decreases-loop-drawn
decreases-loop-drawn g l = rows_left l.sheet
