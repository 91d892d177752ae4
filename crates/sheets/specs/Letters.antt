-- The letters, and how many cells a row of each has (sheets 3).
use Rattle.std.specs.Prelude.{ℕ, Some, None, Option, ◌==◌, if◌then◌else◌}
use Rattle.sheets.specs.declared.letter.Letter.{Letter}
use Rattle.sheets.specs.declared.letter.Letter.TheVariants.{Entry, Change, Cancel, MassCancel, Closing, Opening}
use Rattle.sheets.specs.declared.letter.TheConstants.{ENTRY_BYTE, CHANGE_BYTE, CANCEL_BYTE, MASS_CANCEL_BYTE, CLOSING_BYTE, OPENING_BYTE}

-- the letter of a byte: 'E', 'M', 'X', 'A', 'Z' or 'O' (sheets 3)
abbrev pub letter_of : ℕ → Option Letter
letter_of byte =
    if byte == ENTRY_BYTE then Some Entry
    else if byte == CHANGE_BYTE then Some Change
    else if byte == CANCEL_BYTE then Some Cancel
    else if byte == MASS_CANCEL_BYTE then Some MassCancel
    else if byte == CLOSING_BYTE then Some Closing
    else if byte == OPENING_BYTE then Some Opening
    else None

-- how many cells a row of the letter has (sheets 3)
abbrev pub cells_of : Letter → ℕ
cells_of Entry = 12
cells_of Change = 7
cells_of Cancel = 2
cells_of MassCancel = 4
cells_of Closing = 0
cells_of Opening = 1
