-- The columns of the letters: their cells by name (lines 1).
use Rattle.std.specs.Prelude.{ℕ, ◌+◌, List, [], ◌∷◌, Some, None, codes, Option, if◌then◌else◌}
use Rattle.std.specs.Str.{bytes_eq}
use Rattle.sheets.specs.Letters.{letter_of}
use Rattle.sheets.specs.declared.letter.Letter.{Letter}
use Rattle.sheets.specs.declared.letter.Letter.TheVariants.{Entry, Change, Cancel, MassCancel, Closing, Opening}
use Rattle.line_format.specs.declared.columns.Column.{Column}
use Rattle.line_format.specs.declared.columns.CellKind.{CellKind}
use Rattle.line_format.specs.declared.columns.CellKind.TheVariants.{Number, Side, OneByte, Validity, Price}

-- the columns of a letter in the order of its cells: the name, and how the value is written
-- (lines 1)
abbrev pub columns : Letter → List (List ℕ × CellKind)
columns Entry =
    (codes "firm", Number) ∷ (codes "client", Number) ∷ (codes "side", Side)
    ∷ (codes "type", OneByte) ∷ (codes "validity", Validity) ∷ (codes "price", Price)
    ∷ (codes "trigger", Price) ∷ (codes "quantity", Number) ∷ (codes "disclosed", Number)
    ∷ (codes "minimum", Number) ∷ (codes "investor", Number) ∷ (codes "tag", Number) ∷ []
columns Change =
    (codes "firm", Number) ∷ (codes "client", Number) ∷ (codes "number", Number)
    ∷ (codes "price", Price) ∷ (codes "quantity", Number) ∷ (codes "disclosed", Number)
    ∷ (codes "validity", Validity) ∷ []
columns Cancel = (codes "firm", Number) ∷ (codes "number", Number) ∷ []
columns MassCancel =
    (codes "firm", Number) ∷ (codes "side", Side) ∷ (codes "tag", Number)
    ∷ (codes "investor", Number) ∷ []
columns Closing = []
columns Opening = (codes "day", Number) ∷ []

-- the first column of a name; the columns count from k
abbrev pub column_named : (k : ℕ) → List (List ℕ × CellKind) → (name : List ℕ) → Option Column
column_named k [] name = None
column_named k (column ∷ rest) name =
    if bytes_eq name column.0 then Some (record { index = k; kind = column.1 })
    else column_named (k + 1) rest name

-- the column of a name; none where the letter has no such cell (lines 1)
abbrev pub column_of : Letter → (name : List ℕ) → Option Column
column_of letter name = column_named 0 (columns letter) name

-- the letter that the first word of a line is: one byte (lines 1)
abbrev pub letter_word : List ℕ → Option Letter
letter_word [] = None
letter_word (byte ∷ []) = letter_of byte
letter_word (byte ∷ (second ∷ rest)) = None
