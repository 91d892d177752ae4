use Rattle.std.proofs.Common.{◌≡◌, Ok, sym, ap, ◌∙◌, rules, tests, arith}
use Rattle.std.specs.Prelude.{◌==◌}
use Rattle.std.proofs.lemmas.List.{length_push}
use Rattle.std.proofs.lemmas.Iterator.Consumers.{YieldsList-turn, YieldsList-end}
use Rattle.std.proofs.lemmas.Iterator.Splits.{YieldsList-from_slice_split}
use Rattle.sheet_writer.specs.WrittenRows.{sheet_of}
use Rattle.text_sheets.specs.FormsOfLines.{lines_of_text, forms_named}
use Rattle.text_sheets.proofs.LineByLine.{no_more, refused_here, taken_here, blamed}
use Rattle.text_sheets.proofs.sheet.make_sheet.Goals as goal

-- where a line is refused, so is the text
pub returns-in-Err-clause-refused : goal.returns-in-Err-clause-refused
returns-in-Err-clause-refused c =
    let t = YieldsList-turn (YieldsList-from_slice_split _ (λ b. b == 10) c.args.text.now (cc) (cc) (cc) (λ x r q k. search (rules, tests)))
    c.loop-line.yielded _ c.loop-line.yielded_by _ _ c.in-Some.line c.in-Some.is c.next.ensures.steps in
    let i = c.loop-line.invariant in
    let there = rw (← i.counted) at t in
    let answer = rw c.in-Err.is at c.in_ok-refused.ensures.added i.forms i.held in
    record {
      first = refused_here (lines_of_text c.args.text.now) c.loop-line.number i.forms c.in-Some.line.now there (forms_named c.args.text.now) i.named c.in-Err.refused answer;
      blames = blamed c.args.text.now c.in-Some.line.now c.loop-line.number c.in-Err.refused there (rw c.in-Err.is at c.in_ok-refused.ensures.refused);
    }

pub loop-line-preserved : goal.loop-line-preserved
loop-line-preserved c =
    let t = YieldsList-turn (YieldsList-from_slice_split _ (λ b. b == 10) c.args.text.now (cc) (cc) (cc) (λ x r q k. search (rules, tests)))
    c.loop-line.yielded _ c.loop-line.yielded_by _ _ c.in-Some.line c.in-Some.is c.next.ensures.steps in
    let i = c.loop-line.invariant in
    let there = rw (← i.counted) at t in
    let answer = rw c.in_default.is at c.in_ok-refused.ensures.added i.forms i.held in
    record {
      goes_on = search rules;
      ends = tt;
      counted = omega (arith, i.counted, length_push c.loop-line.yielded c.in-Some.line);
      forms = answer.0;
      held = answer.2;
      named = taken_here (lines_of_text c.args.text.now) c.loop-line.number i.forms c.in-Some.line.now there (forms_named c.args.text.now) i.named answer.0 answer.1;
    }

-- every line was taken
all_named : (c : goal.After-drop-draft-3) → forms_named c.args.text.now ≡ Ok c.loop-line.invariant.forms
all_named c =
    let t = YieldsList-end (YieldsList-from_slice_split _ (λ b. b == 10) c.args.text.now (cc) (cc) (cc) (λ x r q k. search (rules, tests)))
    c.loop-line.yielded _ c.loop-line.yielded_by _ _ c.in-None.is c.next.ensures.steps in
    let i = c.loop-line.invariant in
    sym i.named ∙ no_more (lines_of_text c.args.text.now) c.loop-line.number i.forms (omega (arith, i.counted, t.1))

pub returns-clause-made : goal.returns-clause-made
returns-clause-made c =
    let i = c.loop-line.invariant in
    record {
      forms = i.forms;
      named = all_named c;
      written = c.in_ok-bytes.ensures.answer ∙ ap sheet_of i.held.written;
      back = c.in_ok-bytes.ensures.back i.forms i.held;
    }
