use Rattle.std.proofs.Common.{◌≡◌, ◌+◌, List, length, drop}
use Rattle.forms.specs.declared.form.Form.{Form}
use Rattle.sheet_writer.specs.Drafts.{DraftHolds}
use Rattle.text_sheets.specs.FormsOfLines.{lines_of_text, named_from, forms_named}
use Rattle.text_sheets.proofs.sheet.make_sheet.Given as goal

-- the draft holds the forms of the lines so far, and those with the lines to come are all that the
-- text names
abbrev pub invariant-loop-line : goal.invariant-loop-line
invariant-loop-line l = record {
  goes_on : (goal.iterator-loop-line).can_next l.line-iterator;
  ends : (goal.iterator-loop-line).is_finite l.line-iterator;
  counted : l.number ≡ length l.yielded;
  forms : List Form;
  held : DraftHolds l.draft forms;
  named : named_from (l.number + 1) (drop l.number (lines_of_text l.text)) forms ≡ forms_named l.text;
}
