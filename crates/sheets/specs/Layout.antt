-- Where rows and cells are: directories, their pairs, and the bytes that a pair names.
use Rattle.std.specs.Prelude.{ℕ, zero, suc, ◌+◌, ◌*◌, ◌||◌, List, length, take, drop, Some, None, Option, nat_lt, slice_index, if◌then◌else◌}
use Rattle.sheets.specs.declared.directory.Directory.{Directory}
use Rattle.sheets.specs.declared.directory.Directory.TheVariants.{Rows, Cells}

-- the two-byte number at offset i, the high byte first (sheets 1)
abbrev pub word : List ℕ → (i : ℕ) → ℕ
word bytes i = slice_index bytes i * 256 + slice_index bytes (i + 1)

-- `len` bytes from an offset on
abbrev pub part : List ℕ → (offset len : ℕ) → List ℕ
part bytes offset len = take len (drop offset bytes)

-- the offset of pair k, from 0: a sheet's pairs follow its count, by numbers of two bytes; a row's
-- follow its letter and count, by numbers of one byte (sheets 1, 3)
abbrev pub offset_at : Directory → List ℕ → (k : ℕ) → ℕ
offset_at Rows bytes k = word bytes (4 * k + 2)
offset_at Cells bytes k = slice_index bytes (2 * k + 2)

-- the length of pair k (sheets 1, 3)
abbrev pub length_at : Directory → List ℕ → (k : ℕ) → ℕ
length_at Rows bytes k = word bytes (4 * k + 4)
length_at Cells bytes k = slice_index bytes (2 * k + 3)

-- where a directory of `count` pairs ends (sheets 1, 3)
abbrev pub directory_end : Directory → (count : ℕ) → ℕ
directory_end Rows count = 4 * count + 2
directory_end Cells count = 2 * count + 2

-- the bytes that pair k names: those of a row of a sheet, or of a cell of a row (sheets 2)
abbrev pub part_at : Directory → List ℕ → (k : ℕ) → List ℕ
part_at directory bytes k = part bytes (offset_at directory bytes k) (length_at directory bytes k)

-- where they end
abbrev pub ends_at : Directory → List ℕ → (k : ℕ) → ℕ
ends_at directory bytes k = offset_at directory bytes k + length_at directory bytes k

-- where pair k ends, unless it is misplaced: it starts before `least`, or ends outside (sheets 2)
abbrev pub pair_end : Directory → List ℕ → (k least : ℕ) → Option ℕ
pair_end directory bytes k least =
    if nat_lt (offset_at directory bytes k) least
    || nat_lt (length bytes) (ends_at directory bytes k)
    then None else Some (ends_at directory bytes k)

-- the first misplaced pair, counted from 1, of n pairs from k on: each starts at or after the end
-- of the one before (sheets 2)
abbrev pub first_misplaced_from : Directory → List ℕ → (n k least : ℕ) → Option ℕ
first_misplaced_from directory bytes zero k least = None
first_misplaced_from directory bytes (suc n) k least =
    elim (pair_end directory bytes k least) [
      | Some end ↦ first_misplaced_from directory bytes n (k + 1) end
      | None ↦ Some (k + 1)
    ]

-- the first misplaced pair of a directory: the first pair starts at or after the directory's end
-- (sheets 2)
abbrev pub first_misplaced : Directory → List ℕ → (count : ℕ) → Option ℕ
first_misplaced directory bytes count =
    first_misplaced_from directory bytes count 0 (directory_end directory count)
