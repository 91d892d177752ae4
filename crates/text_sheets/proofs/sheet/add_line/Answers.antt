use Rattle.std.proofs.Common.{[], ◌∷◌, ◌++◌, ap, sym, ◌∙◌}
use Rattle.sheet_writer.specs.Drafts.{rows}
use Rattle.text_sheets.specs.FormsOfLines.{with_read}
use Rattle.text_sheets.proofs.FormsJoin.{all_fit, forms_join}
use Rattle.text_sheets.proofs.sheet.add_line.Goals as goal

pub returns-in-Ok-clause-added : goal.returns-in-Ok-clause-added
returns-in-Ok-clause-added c forms h =
    let form = c.in-Ok-Some.form in
    let read = rw c.in-Ok-Some.field-0-is at c.in-Ok-Some.ensures.answer in
    let fit = rw c.in-Ok-Some.field-0-is at c.in-Ok-Some.ensures.form_in_bounds in
    let answer = rw c.in-Ok.is at c.in_ok-add.ensures.ok.answer in
    let j = forms_join c.args.number c.args.line.now forms form (rows c.args.draft.now) h.written answer in (
      forms ++ form ∷ [],
      ap (with_read c.args.number c.args.line.now forms) (sym read) ∙ j.0,
      record { written = c.in_ok-add.ensures.ok.state ∙ j.1; fit = all_fit c.args.number c.args.line.now forms form h.fit fit },
    )
