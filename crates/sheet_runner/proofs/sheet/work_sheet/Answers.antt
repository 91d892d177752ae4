use Rattle.std.proofs.Common.{Option, ap, ◌∙◌}
use Rattle.forms.specs.declared.refusal.Refusal.{Refusal}
use Rattle.venue.specs.Days.{state}
use Rattle.sheets.specs.declared.sheet.Sheet.{Sheet}
use Rattle.sheets.specs.Sheets.{after_draw}
use Rattle.sheet_runner.specs.SheetRuns.{SheetRun, sheet_run, rows_unless}
use Rattle.sheet_runner.proofs.RowsOfSheet.{rows_to_come, a_row, no_row, from_the_first}
use Rattle.sheet_runner.proofs.sheet.work_sheet.Goals as goal

pub loop-drawn-preserved : goal.loop-drawn-preserved
loop-drawn-preserved g c =
    let before = sheet_run (state (g.B.Book.queues c.loop-drawn.book) c.loop-drawn.tape c.loop-drawn.day) c.loop-drawn.replies in
    let after = sheet_run (state (g.B.Book.queues c.work_row-day.new.book) c.work_row-day.new.tape c.work_row-day.result) c.work_row-day.new.replies in
    ap (λ (s : Sheet). rows_to_come s after) c.draw.ensures.state
    ∙ ap (λ (d : SheetRun). rows_to_come (after_draw c.loop-drawn.sheet) d) c.work_row-day.ensures
    ∙ a_row c.loop-drawn.sheet c.in-Some.drawn before c.in-Some.ensures.answer
    ∙ c.loop-drawn.invariant

pub returns-clause-state : goal.returns-clause-state
returns-clause-state g c =
    let bytes = c.args.bytes.now in
    let before = sheet_run (state (g.B.Book.queues c.args.book.now) c.args.tape.now c.args.day) c.args.replies.now in
    let admitted = c.in-Ok.ensures in
    no_row c.loop-drawn.sheet _ c.in_default.ensures.answer
    ∙ c.loop-drawn.invariant
    ∙ from_the_first bytes c.in-Ok.sheet before admitted.ok
    ∙ ap (λ (refusal : Option Refusal). rows_unless refusal bytes before) admitted.err
