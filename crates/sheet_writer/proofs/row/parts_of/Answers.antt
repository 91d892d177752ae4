use Rattle.std.proofs.Common.{◌≤◌, length, ap, map, vec_items, vec_len, take, arith}
use Rattle.std.proofs.lemmas.List.{length-map, length-take-le, length-append}
use Rattle.sheet_writer.specs.CellTexts.{text}
use Rattle.sheet_writer.proofs.CellsSoFar.{lengths_more, bytes_more, short_there}
use Rattle.sheet_writer.proofs.row.parts_of.Goals as goal

pub add-requires : goal.add-requires
add-requires c =
    let i = c.loop-cell.cell-index in
    let cells = c.args.cells.now in
    let p = c.loop-cell.invariant.packs in
    let short : length c.as_slice.result.now ≤ 12 =
    omega (arith, ap length c.as_slice.ensures.value, ap length c.in_ok-text.ensures, short_there cells i c.loop-cell-test.true c.requires.room) in
    let many : vec_len c.loop-cell.parts.lengths ≤ 12 =
    omega (arith, ap length p.1, length-map (map text (take i cells)) length, length-map (take i cells) text, length-take-le i cells (omega arith)) in
    rw p.0 (omega (arith, short, many, c.loop-cell.invariant.few))

pub loop-cell-preserved : goal.loop-cell-preserved
loop-cell-preserved c =
    let i = c.loop-cell.cell-index in
    let cells = c.args.cells.now in
    let p = c.loop-cell.invariant.packs in
    let lengths = lengths_more cells i c.loop-cell-test.true in
    let bytes = bytes_more cells i c.loop-cell-test.true in
    let t = c.in_ok-add.ensures.ok in
    let text = c.in_ok-text.ensures in
    let short : length c.as_slice.result.now ≤ 12 =
    omega (arith, ap length c.as_slice.ensures.value, ap length text, short_there cells i c.loop-cell-test.true c.requires.room) in
    record {
      packs = (cc, cc, cc);
      few = omega (arith, ap length t.bytes, length-append (vec_items c.loop-cell.parts.bytes) c.as_slice.result.now, c.loop-cell.invariant.few, short);
    }
