use Rattle.std.proofs.Common.{◌≡◌, ◌≤◌, length, vec_items, vec_len, ap, arith}
use Rattle.std.proofs.lemmas.List.{length-map}
use Rattle.std.proofs.lemmas.Result.{IfOk-weaker}
use Rattle.sheet_writer.specs.Drafts.{rows}
use Rattle.sheet_writer.specs.WrittenRows.{row_written, sheet_of, sheet_written, ReadsAs}
use Rattle.sheet_writer.proofs.SheetReadsBack.{sheet_back}
use Rattle.sheet_writer.proofs.DraftRows.{length-cut_by_lengths, sheet_cut, sheet_size}
use Rattle.sheet_writer.proofs.draft.Draft.bytes.Goals as goal

pub returns-clause-answer : goal.returns-clause-answer
returns-clause-answer c =
    let kept = c.args.self.now.rows in
    let many : vec_len kept.lengths ≡ length (vec_items kept.lengths) = omega arith in
    rw (sheet_cut (vec_items kept.lengths) (vec_items kept.bytes) kept.counted) (rw (c.args.self.now.sheet, c.len-count.ensures, many) at c.packed.ensures)

pub returns-clause-back : goal.returns-clause-back
returns-clause-back c forms held =
    let kept = c.args.self.now.rows in
    let few : length forms ≤ 512 =
    omega (arith, length-map forms row_written, ap length held.written, length-cut_by_lengths (vec_items kept.lengths) (vec_items kept.bytes), c.args.self.now.few) in
    let size = sheet_size (vec_items kept.lengths) (vec_items kept.bytes) kept.counted in
    let within = rw c.args.self.now.sheet at kept.within in
    let short : length (sheet_written forms) ≤ 65535 = rw (← held.written) (omega (arith, size, within)) in
    IfOk-weaker c.packed.result (λ v. vec_items v ≡ sheet_of (rows c.args.self.now)) (λ v. ReadsAs forms (vec_items v)) (λ v e. rw (e, held.written) (sheet_back forms held.fit few short)) (returns-clause-answer c)
