-- Values, as a line has them after the `=`: read as a cell of a sheet is, or one of a few words
-- (lines 1).
use Rattle.std.specs.Prelude.{ℕ, List, Some, None, Ok, Err, codes, Option, Result, if◌then◌else◌}
use Rattle.std.specs.Str.{bytes_eq}
use Rattle.sheets.specs.Cells.{read_number, read_price, read_type}
use Rattle.line_format.specs.declared.columns.CellKind as kind
use Rattle.line_format.specs.declared.columns.CellKind.{CellKind}
use Rattle.line_format.specs.declared.values.Value.{Value}
use Rattle.line_format.specs.declared.values.Value.TheVariants.{Number, Byte, Price}

-- a value that can be read and is not empty (lines 1)
abbrev pub read_as : {A : Type 0} → (A → Value) → Result (Option A) ℕ → Option Value
read_as f (Ok (Some x)) = Some (f x)
read_as f (Ok None) = None
read_as f (Err place) = None

-- a number, read as a number cell is (lines 1)
abbrev pub number_value : List ℕ → Option Value
number_value bytes = read_as Number (read_number bytes)

-- a type, read as a type cell is (lines 1)
abbrev pub type_value : List ℕ → Option Value
type_value bytes = read_as Byte (read_type bytes)

-- a price, read as a price cell is (lines 1)
abbrev pub price_value : List ℕ → Option Value
price_value bytes = read_as Price (read_price bytes)

-- the number of a side that is written as a word (lines 1)
abbrev pub side_word : List ℕ → Option ℕ
side_word bytes =
    if bytes_eq bytes (codes "buy") then Some 1
    else if bytes_eq bytes (codes "sell") then Some 2
    else None

-- the number of a validity that is written as a word (lines 1)
abbrev pub validity_word : List ℕ → Option ℕ
validity_word bytes =
    if bytes_eq bytes (codes "day") then Some 0
    else if bytes_eq bytes (codes "gtc") then Some 1
    else if bytes_eq bytes (codes "ioc") then Some 3
    else if bytes_eq bytes (codes "fok") then Some 4
    else None

-- the number that the word stands for, or else the number that is written (lines 1)
abbrev pub worded : Option ℕ → List ℕ → Option Value
worded (Some n) bytes = Some (Number n)
worded None bytes = number_value bytes

-- a value by how the cell is written (lines 1)
abbrev pub read_value : CellKind → List ℕ → Option Value
read_value kind.TheVariants.Number bytes = number_value bytes
read_value kind.TheVariants.Side bytes = worded (side_word bytes) bytes
read_value kind.TheVariants.OneByte bytes = type_value bytes
read_value kind.TheVariants.Validity bytes = worded (validity_word bytes) bytes
read_value kind.TheVariants.Price bytes = price_value bytes
