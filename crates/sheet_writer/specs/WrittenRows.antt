-- Forms, written as rows and sheets, and what reading these gives.
use Rattle.std.specs.Prelude.{◌≡◌, ℕ, List, [], ◌∷◌, length, map, Some, None, Ok, Option, if◌then◌else◌}
use Rattle.std.specs.List.{slice_get}
use Rattle.forms.specs.declared.form.Form.{Form}
use Rattle.sheets.specs.FormBounds.{form_in_bounds}
use Rattle.sheets.specs.Rows.{read_form}
use Rattle.sheets.specs.Sheets.{row_count, sheet_refusal, row_bytes}
use Rattle.sheets.specs.declared.directory.Directory.TheVariants.{Rows, Cells}
use Rattle.sheet_writer.specs.CellTexts.{letter, letter_byte, cells, text}
use Rattle.sheet_writer.specs.PackedParts.{number_bytes, packed}

-- the row of a form: its letter, how many cells it has, their pairs, and the cells (sheets 3)
abbrev pub row_written : Form → List ℕ
row_written form =
    packed Cells (letter_byte (letter form) ∷ length (cells form) ∷ []) (map text (cells form))

-- the row of a form whose cells have room for their values (sheets 4)
abbrev pub row_if_room : Form → Option (List ℕ)
row_if_room form = if form_in_bounds form then Some (row_written form) else None

-- the sheet of some rows: how many they are, their pairs, and the rows (sheets 1)
abbrev pub sheet_of : List (List ℕ) → List ℕ
sheet_of rows = packed Rows (number_bytes Rows (length rows)) rows

-- the sheet of the rows of some forms (sheets 1)
abbrev pub sheet_written : List Form → List ℕ
sheet_written forms = sheet_of (map row_written forms)

-- a sheet that is accepted, has as many rows as there are forms, and of which row k reads as form k
-- (lines 2)
pub record ReadsAs (forms : List Form) (sheet : List ℕ) : Type 0 where
  pub accepted : sheet_refusal sheet ≡ None
  pub counted : row_count sheet ≡ Ok (length forms)
  pub rows : (k : ℕ) (form : Form) → slice_get forms k ≡ Some form
      → read_form (row_bytes sheet k) ≡ Ok form
