use Rattle.std.proofs.Common.{◌*◌, ◌≤◌, map, take, vec_len}
use Rattle.sheets.specs.declared.directory.Directory.TheVariants.{Cells}
use Rattle.sheet_writer.specs.CellTexts.{text}
use Rattle.sheet_writer.specs.PartLists.{Packs}
use Rattle.sheet_writer.proofs.row.parts_of.Given as goal

-- the texts so far are stored, and none of them has more than twelve bytes
abbrev pub invariant-loop-cell : goal.invariant-loop-cell
invariant-loop-cell l = record {
  packs : Packs Cells (map text (take l.cell-index l.cells)) l.parts;
  few : vec_len l.parts.bytes ≤ 12 * l.cell-index;
}
