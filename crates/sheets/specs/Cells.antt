-- Cells, read from their bytes: a value, none where the cell is blank, or the place, from 1, of the
-- first byte that cannot stand there (sheets 4).
use Rattle.std.specs.Prelude.{ℕ, ◌+◌, ◌*◌, Bool, ◌&&◌, List, [], ◌∷◌, length, take, drop, Some, None, Ok, Err, Option, Result, ◌==◌, nat_lt, slice_index, if◌then◌else◌}
use Rattle.std.specs.Char.{is_ascii_digit}
use Rattle.std.specs.Str.Parse.{digits_value}
use Rattle.std.specs.List.{prefix_len}
use Rattle.orders.specs.declared.price.Price.{Price}
use Rattle.sheets.specs.declared.cells.TheConstants.{NUMBER_DIGITS, WHOLE_DIGITS, CENT_DIGITS, COMMA}

-- how many digits, '0' to '9', stand at the front, of the first `most` bytes (sheets 4)
abbrev pub digits : (most : ℕ) → List ℕ → ℕ
digits most bytes = prefix_len is_ascii_digit (take most bytes)

-- the number that they write
abbrev pub digits_number : (most : ℕ) → List ℕ → ℕ
digits_number most bytes = digits_value 10 (take (digits most bytes) bytes)

-- a cell of length 0 (sheets 4)
abbrev pub is_blank : List ℕ → Bool
is_blank bytes = length bytes == 0

-- a number cell: 1 to 12 digits (sheets 4)
abbrev pub read_number : List ℕ → Result (Option ℕ) ℕ
read_number bytes =
    if is_blank bytes then Ok None
    else if digits NUMBER_DIGITS bytes == length bytes
    then Ok (Some (digits_number NUMBER_DIGITS bytes))
    else Err (digits NUMBER_DIGITS bytes + 1)

-- what follows the comma of a price: two digits and no more; `before` bytes stand in front of the
-- comma and write `units` (sheets 4)
abbrev pub read_cents : (before units : ℕ) → List ℕ → Result (Option Price) ℕ
read_cents before units bytes =
    if digits CENT_DIGITS bytes == CENT_DIGITS && length bytes == CENT_DIGITS
    then Ok (Some (record { hundredths = units * 100 + digits_number CENT_DIGITS bytes }))
    else Err (before + 1 + digits CENT_DIGITS bytes + 1)

-- a price cell: 1 to 6 digits, a comma and two digits (sheets 4)
abbrev pub read_price : List ℕ → Result (Option Price) ℕ
read_price bytes =
    let whole = digits WHOLE_DIGITS bytes in
    if is_blank bytes then Ok None
    else if nat_lt 0 whole && slice_index bytes whole == COMMA
    then read_cents whole (digits_number WHOLE_DIGITS bytes) (drop (whole + 1) bytes)
    else Err (whole + 1)

-- a type cell: any one byte (sheets 4)
abbrev pub read_type : List ℕ → Result (Option ℕ) ℕ
read_type [] = Ok None
read_type (byte ∷ []) = Ok (Some byte)
read_type (byte ∷ (second ∷ rest)) = Err 2
