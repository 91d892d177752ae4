-- The cells of a form's row, and the bytes that each is written as (sheets 3, 4, 5).
use Rattle.std.specs.Prelude.{ℕ, Bool, true, List, [], ◌∷◌, Some, None, decimal}
use Rattle.forms.specs.declared.form.Form as form
use Rattle.forms.specs.declared.form.Form.{Form}
use Rattle.display.specs.PrintedTexts.{price_text}
use Rattle.sheets.specs.FormBounds.{number_in_bounds, price_in_bounds}
use Rattle.sheets.specs.declared.letter.Letter.{Letter}
use Rattle.sheets.specs.declared.letter.TheConstants.{ENTRY_BYTE, CHANGE_BYTE, CANCEL_BYTE, MASS_CANCEL_BYTE, CLOSING_BYTE, OPENING_BYTE}
use Rattle.sheets.specs.declared.letter.Letter.TheVariants.{Entry, Change, Cancel, MassCancel, Closing, Opening}
use Rattle.sheet_writer.specs.declared.cell.Cell.{Cell}
use Rattle.sheet_writer.specs.declared.cell.Cell.TheVariants.{Number, OneByte, Price}

-- the letter of a form's row (sheets 3)
abbrev pub letter : Form → Letter
letter (form.TheVariants.Entry f) = Entry
letter (form.TheVariants.Change f) = Change
letter (form.TheVariants.Cancel f) = Cancel
letter (form.TheVariants.MassCancel f) = MassCancel
letter form.TheVariants.Closing = Closing
letter (form.TheVariants.Opening f) = Opening

-- the first byte of a row of the letter: 'E', 'M', 'X', 'A', 'Z' or 'O' (sheets 3)
abbrev pub letter_byte : Letter → ℕ
letter_byte Entry = ENTRY_BYTE
letter_byte Change = CHANGE_BYTE
letter_byte Cancel = CANCEL_BYTE
letter_byte MassCancel = MASS_CANCEL_BYTE
letter_byte Closing = CLOSING_BYTE
letter_byte Opening = OPENING_BYTE

-- the cells of a form, in the order of its row (sheets 5)
abbrev pub cells : Form → List Cell
cells (form.TheVariants.Entry f) =
    Number f.firm ∷ Number f.client ∷ Number f.side ∷ OneByte f.order_type ∷ Number f.validity
    ∷ Price f.price ∷ Price f.trigger ∷ Number f.quantity ∷ Number f.disclosed
    ∷ Number f.minimum ∷ Number f.investor ∷ Number f.tag ∷ []
cells (form.TheVariants.Change f) =
    Number f.firm ∷ Number f.client ∷ Number f.number ∷ Price f.price ∷ Number f.quantity
    ∷ Number f.disclosed ∷ Number f.validity ∷ []
cells (form.TheVariants.Cancel f) = Number f.firm ∷ Number f.number ∷ []
cells (form.TheVariants.MassCancel f) =
    Number f.firm ∷ Number f.side ∷ Number f.tag ∷ Number f.investor ∷ []
cells form.TheVariants.Closing = []
cells (form.TheVariants.Opening f) = Number f.day ∷ []

-- a number by its digits, a price with a comma and two digits, a type by its byte; a blank cell has
-- no bytes (sheets 4)
abbrev pub text : Cell → List ℕ
text (Number None) = []
text (Number (Some n)) = decimal n
text (OneByte None) = []
text (OneByte (Some b)) = b ∷ []
text (Price None) = []
text (Price (Some p)) = price_text p.hundredths

-- a cell has room for a number of twelve digits, and for a price of 999999,99 (sheets 4)
abbrev pub has_room : Cell → Bool
has_room (Number n) = number_in_bounds n
has_room (OneByte b) = true
has_room (Price p) = price_in_bounds p
