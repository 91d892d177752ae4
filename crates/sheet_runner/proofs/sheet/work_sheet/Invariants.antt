use Rattle.std.proofs.Common.{◌≡◌}
use Rattle.venue.specs.Days.{state}
use Rattle.sheets.specs.Sheets.{rows_left}
use Rattle.sheet_runner.specs.SheetRuns.{sheet_run}
use Rattle.sheet_runner.proofs.RowsOfSheet.{rows_to_come}
use Rattle.sheet_runner.proofs.sheet.work_sheet.Given as goal

-- the rows still to be drawn, worked from here, lead to where the whole sheet does
abbrev pub invariant-loop-drawn : goal.invariant-loop-drawn
invariant-loop-drawn g l =
    rows_to_come l.sheet (sheet_run (state (g.B.Book.queues l.book) l.tape l.day) l.replies)
    ≡ rows_to_come l.initial.sheet (sheet_run (state (g.B.Book.queues l.initial.book) l.initial.tape l.initial.day) l.initial.replies)

abbrev pub decreases-loop-drawn : goal.decreases-loop-drawn
decreases-loop-drawn g l = rows_left l.sheet
