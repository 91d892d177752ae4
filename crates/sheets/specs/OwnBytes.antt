-- A row is read from the bytes that its pair names and from no other byte, and so is a cell
-- (sheets 2).
use Rattle.std.specs.Prelude.{◌≡◌, ℕ, ◌+◌, ◌<◌, List, None, slice_index}
use Rattle.sheets.specs.Layout.{word, offset_at, length_at, first_misplaced, part_at}
use Rattle.sheets.specs.Rows.{number_cell, price_cell, type_cell, read_form}
use Rattle.sheets.specs.Sheets.{sheet_refusal}
use Rattle.sheets.specs.declared.directory.Directory.{Directory}
use Rattle.sheets.specs.declared.directory.Directory.TheVariants.{Rows, Cells}

-- pair j of `a` and pair k of `b` name as many bytes, and the same ones
abbrev pub Agree : Directory → (a : List ℕ) (j : ℕ) (b : List ℕ) (k : ℕ) → Type 0
Agree directory a j b k =
    (length_at directory a j ≡ length_at directory b k)
    × ((i : ℕ) → i < length_at directory a j
    → slice_index a (offset_at directory a j + i) ≡ slice_index b (offset_at directory b k + i))

-- two sheets that agree on a row's bytes give the same form, or the same refusal, whatever else
-- they hold (sheets 2)
unfoldable pub RowAlone : Type 0
RowAlone =
    (a b : List ℕ) (j k : ℕ) → sheet_refusal a ≡ None → j < word a 0
    → sheet_refusal b ≡ None → k < word b 0
    → Agree Rows a j b k → read_form (part_at Rows a j) ≡ read_form (part_at Rows b k)

-- two rows without a misplaced pair that agree on a cell's bytes agree on that cell, of whatever
-- kind it is (sheets 2)
unfoldable pub CellAlone : Type 0
CellAlone =
    (a b : List ℕ) (k : ℕ)
    → first_misplaced Cells a (slice_index a 1) ≡ None → k < slice_index a 1
    → first_misplaced Cells b (slice_index b 1) ≡ None → k < slice_index b 1
    → Agree Cells a k b k
    → (number_cell a k ≡ number_cell b k)
    × (price_cell a k ≡ price_cell b k)
    × (type_cell a k ≡ type_cell b k)
