-- What a good cell is, in the words of the format, and that cells are read by it.
use Rattle.std.specs.Char.{is_ascii_digit}
use Rattle.std.specs.Prelude.{◌≡◌, ℕ, ◌+◌, ◌<◌, ◌≤◌, true, List, [], ◌++◌, length, take, Some, None, Ok, Err, Option, Result, ◌≢◌, slice_index, slice_index_or}
use Rattle.sheets.specs.Cells.{read_number, read_price, read_type}
use Rattle.sheets.specs.declared.cells.TheConstants.{NUMBER_DIGITS, WHOLE_DIGITS, CENT_DIGITS, COMMA}

-- 1 to 12 digits (sheets 4)
pub record GoodNumber (bytes : List ℕ) : Type 0 where
  pub some : 1 ≤ length bytes
  pub few : length bytes ≤ NUMBER_DIGITS
  pub digits : (i : ℕ) → i < length bytes → is_ascii_digit (slice_index bytes i) ≡ true

-- 1 to 6 digits, a comma and two digits (sheets 4)
pub record GoodPrice (bytes : List ℕ) : Type 0 where
  pub whole : ℕ
  pub some : 1 ≤ whole
  pub few : whole ≤ WHOLE_DIGITS
  pub long : length bytes ≡ whole + 1 + CENT_DIGITS
  pub comma : slice_index_or bytes whole 0 ≡ COMMA
  pub digits : (i : ℕ) → i < length bytes → i ≢ whole → is_ascii_digit (slice_index bytes i) ≡ true

-- one byte (sheets 4)
abbrev pub GoodType : List ℕ → Type 0
GoodType bytes = length bytes ≡ 1

-- some good cell begins with these bytes
abbrev pub Begins : (Good : List ℕ → Type 0) → List ℕ → Type 0
Begins Good bytes = (rest : List ℕ) × Good (bytes ++ rest)

-- the place, from 1, of the first byte that cannot stand there: one past the longest beginning that
-- some good cell has (sheets 4)
pub record FirstWrong (Good : List ℕ → Type 0) (bytes : List ℕ) (place : ℕ) : Type 0 where
  -- how many bytes that beginning has
  pub right : ℕ
  pub counted : right + 1 ≡ place
  pub bad : Good bytes → ⊥
  pub begins : Begins Good (take right bytes)
  pub ends : right < length bytes → Begins Good (take (right + 1) bytes) → ⊥

-- a cell that reads as blank has no bytes, one that reads as a value is good, and one that is
-- refused names its first wrong byte (sheets 4)
abbrev pub ReadByFormat : {A : Type 0} → (Good : List ℕ → Type 0)
    → List ℕ → Result (Option A) ℕ → Type 0
ReadByFormat Good bytes (Ok None) = bytes ≡ []
ReadByFormat Good bytes (Ok (Some value)) = Good bytes
ReadByFormat Good bytes (Err place) = FirstWrong Good bytes place

-- and so for every cell of each kind (sheets 4)
unfoldable pub CellsReadByFormat : Type 0
CellsReadByFormat =
    (bytes : List ℕ)
    → ReadByFormat GoodNumber bytes (read_number bytes)
    × ReadByFormat GoodPrice bytes (read_price bytes)
    × ReadByFormat GoodType bytes (read_type bytes)
