-- What a sheet is refused with, and how its rows are drawn.
use Rattle.std.specs.Prelude.{◌≡◌, ℕ, ◌+◌, ◌-◌, ◌||◌, List, length, Some, None, Ok, Err, Option, Result, nat_lt, if◌then◌else◌}
use Rattle.forms.specs.declared.refusal.Refusal.{Refusal}
use Rattle.forms.specs.declared.refusal.Refusal.TheVariants.{ShortSheet, RowMisplaced}
use Rattle.sheets.specs.Layout.{word, directory_end, part_at, first_misplaced}
use Rattle.sheets.specs.declared.directory.Directory.TheVariants.{Rows}
use Rattle.sheets.specs.declared.sheet.Sheet.{Sheet}
use Rattle.sheets.specs.declared.sheet.Drawn.{Drawn}
use Rattle.sheets.specs.declared.sheet.TheConstants.{MOST_ROWS, MOST_BYTES}

-- the count of rows, unless the sheet is short of its count or directory, or has too many bytes or
-- rows (sheets 1, numbers 1)
abbrev pub row_count : List ℕ → Result ℕ Refusal
row_count bytes =
    if nat_lt (length bytes) 2 || nat_lt MOST_BYTES (length bytes)
    || nat_lt MOST_ROWS (word bytes 0)
    || nat_lt (length bytes) (directory_end Rows (word bytes 0))
    then Err ShortSheet else Ok (word bytes 0)

-- the refusal for the first misplaced row (numbers 1)
abbrev pub misplaced_row : Option ℕ → Option Refusal
misplaced_row None = None
misplaced_row (Some row) = Some (RowMisplaced row)

-- the refusal for the count, or else for a misplaced row (numbers 1)
abbrev pub directory_refusal : List ℕ → Result ℕ Refusal → Option Refusal
directory_refusal bytes (Err refusal) = Some refusal
directory_refusal bytes (Ok rows) = misplaced_row (first_misplaced Rows bytes rows)

-- what a sheet is refused with by its own bytes (sheets 6, numbers 1)
abbrev pub sheet_refusal : List ℕ → Option Refusal
sheet_refusal bytes = directory_refusal bytes (row_count bytes)

-- the bytes of row k, from 0 (sheets 1)
abbrev pub row_bytes : List ℕ → (k : ℕ) → List ℕ
row_bytes bytes k = part_at Rows bytes k

-- a sheet of these bytes that was just read: none of its rows is drawn yet
pub record JustRead (input : List ℕ) (sheet : Sheet) : Type 0 where
  pub bytes : sheet.bytes.now ≡ input
  pub count : sheet.count ≡ word input 0
  pub done : sheet.done ≡ 0

-- the row that comes next: its number, from 1, and the bytes that its pair names (sheets 6)
abbrev pub next_row : Sheet → Option (ℕ × List ℕ)
next_row sheet =
    if nat_lt sheet.done sheet.count
    then Some (sheet.done + 1, row_bytes sheet.bytes.now sheet.done) else None

-- the row that comes next is drawn, with a slip of its number; none after the last (sheets 6)
abbrev pub IsDrawn : (next : Option (ℕ × List ℕ)) → Option Drawn → Type 0
IsDrawn None None = Unit {0}
IsDrawn None (Some drawn) = ⊥
IsDrawn (Some row) None = ⊥
IsDrawn (Some row) (Some drawn) = (drawn.slip.row ≡ row.0) × (drawn.bytes.now ≡ row.1)

-- a sheet after its next row was drawn, where there is one (sheets 6)
abbrev pub after_draw : Sheet → Sheet
after_draw sheet =
    record sheet { done = if nat_lt sheet.done sheet.count then sheet.done + 1 else sheet.done }

-- how many rows are still to come
abbrev pub rows_left : Sheet → ℕ
rows_left sheet = sheet.count - sheet.done
