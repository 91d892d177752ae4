-- The limits and letters of a sheet as published (sheets 1, 3, 4, 5).
-- Definitions cite the constants of the code; these are their values.
use Rattle.std.specs.Prelude.{◌≡◌}
use Rattle.sheets.specs.declared.sheet.TheConstants.{MOST_ROWS, MOST_BYTES}
use Rattle.sheets.specs.declared.letter.TheConstants.{ENTRY_BYTE, CHANGE_BYTE, CANCEL_BYTE, MASS_CANCEL_BYTE, CLOSING_BYTE, OPENING_BYTE, MOST_CELLS}
use Rattle.sheets.specs.declared.cells.TheConstants.{NUMBER_DIGITS, WHOLE_DIGITS, CENT_DIGITS, COMMA, CELL_NUMBERS_END, CELL_PRICES_END}

pub record SheetLimits : Type 0 where
  pub rows : MOST_ROWS ≡ 512
  pub bytes : MOST_BYTES ≡ 65535
  pub entry : ENTRY_BYTE ≡ 69
  pub change : CHANGE_BYTE ≡ 77
  pub cancel : CANCEL_BYTE ≡ 88
  pub mass_cancel : MASS_CANCEL_BYTE ≡ 65
  pub closing : CLOSING_BYTE ≡ 90
  pub opening : OPENING_BYTE ≡ 79
  pub cells : MOST_CELLS ≡ 12
  pub number_digits : NUMBER_DIGITS ≡ 12
  pub whole_digits : WHOLE_DIGITS ≡ 6
  pub cent_digits : CENT_DIGITS ≡ 2
  pub comma : COMMA ≡ 44
  pub numbers_end : CELL_NUMBERS_END ≡ 1000000000000
  pub prices_end : CELL_PRICES_END ≡ 100000000
