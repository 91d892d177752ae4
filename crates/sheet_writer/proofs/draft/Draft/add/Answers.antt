use Rattle.std.proofs.Common.{◌≡◌, ◌<◌, length, None, Some, vec_items, sym, ap, ◌∙◌, leb-true, leb-false, arith, rules}
use Rattle.sheet_writer.specs.Drafts.{rows}
use Rattle.sheet_writer.specs.WrittenRows.{row_if_room}
use Rattle.sheet_writer.proofs.DraftRows.{length-cut_by_lengths, cut_more, sheet_more}
use Rattle.sheet_writer.proofs.FormJoins.{no_value, no_row, no_byte, joined}
use Rattle.sheet_writer.proofs.draft.Draft.add.Goals as goal

pub returns-in_default-clause-ok : goal.returns-in_default-clause-ok
returns-in_default-clause-ok c =
    let none : None ≡ row_if_room c.args.form = search rules in
    no_value (rows c.args.self.now) c.args.form none

pub returns-then-len-from-clause-ok : goal.returns-then-len-from-clause-ok
returns-then-len-from-clause-ok c =
    let kept = c.args.self.now.rows in
    let row : Some (vec_items c.in-Some.row) ≡ row_if_room c.args.form = search rules in
    no_row (rows c.args.self.now) c.args.form _ row (omega (arith, length-cut_by_lengths (vec_items kept.lengths) (vec_items kept.bytes)))

pub returns-then-not-takes-clause-ok : goal.returns-then-not-takes-clause-ok
returns-then-not-takes-clause-ok c =
    let kept = c.args.self.now.rows in
    let row : Some (vec_items c.in-Some.row) ≡ row_if_room c.args.form = search rules in
    let few : length (rows c.args.self.now) < 512 = omega (arith, length-cut_by_lengths (vec_items kept.lengths) (vec_items kept.bytes)) in
    let size = sheet_more (vec_items kept.lengths) (vec_items kept.bytes) (vec_items c.in-Some.row) kept.counted in
    let long = leb-false _ _ (sym (rw c.args.self.now.sheet at c.takes.ensures) ∙ c.if-not-takes.true) in
    no_byte (rows c.args.self.now) c.args.form (vec_items c.in-Some.row) row few (omega (arith, size, long, ap length c.as_slice.ensures.value))

pub returns-clause-ok : goal.returns-clause-ok
returns-clause-ok c =
    let kept = c.args.self.now.rows in
    let row : Some (vec_items c.in-Some.row) ≡ row_if_room c.args.form = search rules in
    let few : length (rows c.args.self.now) < 512 = omega (arith, length-cut_by_lengths (vec_items kept.lengths) (vec_items kept.bytes)) in
    let size = sheet_more (vec_items kept.lengths) (vec_items kept.bytes) (vec_items c.in-Some.row) kept.counted in
    let more = cut_more (vec_items kept.lengths) (vec_items kept.bytes) (vec_items c.in-Some.row) kept.counted in
    let short = leb-true _ _ (sym (rw c.args.self.now.sheet at c.takes.ensures) ∙ c.if-not-takes.false) in
    let j = joined (rows c.args.self.now) c.args.form (vec_items c.in-Some.row) row few (omega (arith, size, short, ap length c.as_slice.ensures.value)) in
    record {
      answer = j.answer;
      state = rw (c.in_ok-add.ensures.ok.lengths, c.in_ok-add.ensures.ok.bytes, c.as_slice-2.ensures.value) (more ∙ j.state);
    }
