-- What a reply says of each refusal: its number, the cell that it names, and the place in that cell
-- (numbers 1 to 4).
use Rattle.std.specs.Prelude.{ℕ}
use Rattle.forms.specs.declared.refusal.Refusal.{Refusal}
use Rattle.forms.specs.declared.refusal.Refusal.TheVariants.{ShortSheet, RowMisplaced, UnknownRow, WrongCells, CellMisplaced, Unreadable, WrongBlank, OutOfRange, Barred, NoReplies, WrongDay, TapeFull, NoStamps, UnknownOrder, ClientNumberTaken, ChangeOfStop, QuantityTraded, DisclosedBarred, DayNotLater}

-- the published number (numbers 1 to 4)
abbrev pub refusal_number : Refusal → ℕ
refusal_number ShortSheet = 1
refusal_number (RowMisplaced row) = 2
refusal_number UnknownRow = 3
refusal_number WrongCells = 4
refusal_number (CellMisplaced cell) = 5
refusal_number (Unreadable cell place) = 6
refusal_number (WrongBlank cell) = 7
refusal_number (OutOfRange cell) = 8
refusal_number Barred = 9
refusal_number NoReplies = 20
refusal_number WrongDay = 21
refusal_number TapeFull = 22
refusal_number NoStamps = 23
refusal_number UnknownOrder = 24
refusal_number ClientNumberTaken = 25
refusal_number ChangeOfStop = 27
refusal_number QuantityTraded = 28
refusal_number DisclosedBarred = 29
refusal_number DayNotLater = 30

-- the cell that it names, from 1, or 0 where none is to blame (sheets 6)
abbrev pub refusal_cell : Refusal → ℕ
refusal_cell (CellMisplaced cell) = cell
refusal_cell (Unreadable cell place) = cell
refusal_cell (WrongBlank cell) = cell
refusal_cell (OutOfRange cell) = cell
refusal_cell _ = 0

-- the place in the cell, from 1, of the first byte that cannot stand there, or 0 (sheets 6)
abbrev pub refusal_place : Refusal → ℕ
refusal_place (Unreadable cell place) = place
refusal_place _ = 0
