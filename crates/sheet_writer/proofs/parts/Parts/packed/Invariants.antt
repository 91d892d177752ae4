use Rattle.std.proofs.Common.{◌≡◌, ◌+◌, ◌++◌, length, take, drop, vec_items}
use Rattle.std.specs.List.{sum}
use Rattle.sheets.specs.Layout.{directory_end}
use Rattle.sheet_writer.specs.PackedParts.{pairs}
use Rattle.sheet_writer.proofs.parts.Parts.packed.Given as goal

-- the next part starts where those so far end, and the pairs still to be written complete the
-- directory
abbrev pub invariant-loop-length : goal.invariant-loop-length
invariant-loop-length l =
    let start = directory_end l.self.directory (length (vec_items l.self.lengths)) in
    record {
      place : l.at ≡ start + sum (take l.length-index (vec_items l.self.lengths));
      left : vec_items l.packed ++ pairs l.self.directory l.at (drop l.length-index (vec_items l.self.lengths))
          ≡ l.head ++ pairs l.self.directory start (vec_items l.self.lengths);
    }
