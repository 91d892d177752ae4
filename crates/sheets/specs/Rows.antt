-- A row, read: the form of its letter, cell by cell from the left, or the first refusal
-- (sheets 3, 5).
use Rattle.std.specs.Prelude.{ℕ, ◌+◌, ◌*◌, not, ◌||◌, List, [], ◌∷◌, length, Some, None, Ok, Err, Option, Result, ◌==◌, nat_lt, if◌then◌else◌}
use Rattle.orders.specs.declared.price.Price.{Price}
use Rattle.forms.specs.declared.form.EntryForm.{EntryForm}
use Rattle.forms.specs.declared.form.ChangeForm.{ChangeForm}
use Rattle.forms.specs.declared.form.CancelForm.{CancelForm}
use Rattle.forms.specs.declared.form.MassCancelForm.{MassCancelForm}
use Rattle.forms.specs.declared.form.OpeningForm.{OpeningForm}
use Rattle.forms.specs.declared.form.Form as form
use Rattle.forms.specs.declared.form.Form.{Form}
use Rattle.forms.specs.Results.{and_then}
use Rattle.forms.specs.declared.refusal.Refusal.{Refusal}
use Rattle.forms.specs.declared.refusal.Refusal.TheVariants.{UnknownRow, WrongCells, CellMisplaced, Unreadable}
use Rattle.sheets.specs.Cells.{read_number, read_price, read_type}
use Rattle.sheets.specs.Layout.{part_at, first_misplaced}
use Rattle.sheets.specs.Letters.{letter_of, cells_of}
use Rattle.sheets.specs.declared.directory.Directory.TheVariants.{Cells}
use Rattle.sheets.specs.declared.letter.Letter.{Letter}
use Rattle.sheets.specs.declared.letter.Letter.TheVariants.{Entry, Change, Cancel, MassCancel, Closing, Opening}

-- cell k, from 0, as its reader answers; a refusal counts it from 1 (numbers 2)
abbrev pub in_cell : {A : Type 0} → (k : ℕ) → Result A ℕ → Result A Refusal
in_cell k (Ok value) = Ok value
in_cell k (Err place) = Err (Unreadable (k + 1) place)

-- a number cell of a row, read from the bytes that pair k names (sheets 4)
abbrev pub number_cell : List ℕ → (k : ℕ) → Result (Option ℕ) Refusal
number_cell row k = in_cell k (read_number (part_at Cells row k))

-- a price cell (sheets 4)
abbrev pub price_cell : List ℕ → (k : ℕ) → Result (Option Price) Refusal
price_cell row k = in_cell k (read_price (part_at Cells row k))

-- a type cell (sheets 4)
abbrev pub type_cell : List ℕ → (k : ℕ) → Result (Option ℕ) Refusal
type_cell row k = in_cell k (read_type (part_at Cells row k))

-- the cells of an entry (sheets 5)
abbrev pub read_entry : List ℕ → Result EntryForm Refusal
read_entry row =
    and_then (number_cell row 0) (λ firm.
    and_then (number_cell row 1) (λ client.
    and_then (number_cell row 2) (λ side.
    and_then (type_cell row 3) (λ order_type.
    and_then (number_cell row 4) (λ validity.
    and_then (price_cell row 5) (λ price.
    and_then (price_cell row 6) (λ trigger.
    and_then (number_cell row 7) (λ quantity.
    and_then (number_cell row 8) (λ disclosed.
    and_then (number_cell row 9) (λ minimum.
    and_then (number_cell row 10) (λ investor.
    and_then (number_cell row 11) (λ tag.
    Ok (record {
      firm = firm;
      client = client;
      side = side;
      order_type = order_type;
      validity = validity;
      price = price;
      trigger = trigger;
      quantity = quantity;
      disclosed = disclosed;
      minimum = minimum;
      investor = investor;
      tag = tag;
    })))))))))))))

-- the cells of a change (sheets 5)
abbrev pub read_change : List ℕ → Result ChangeForm Refusal
read_change row =
    and_then (number_cell row 0) (λ firm.
    and_then (number_cell row 1) (λ client.
    and_then (number_cell row 2) (λ number.
    and_then (price_cell row 3) (λ price.
    and_then (number_cell row 4) (λ quantity.
    and_then (number_cell row 5) (λ disclosed.
    and_then (number_cell row 6) (λ validity.
    Ok (record {
      firm = firm;
      client = client;
      number = number;
      price = price;
      quantity = quantity;
      disclosed = disclosed;
      validity = validity;
    }))))))))

-- the cells of a cancel (sheets 5)
abbrev pub read_cancel : List ℕ → Result CancelForm Refusal
read_cancel row =
    and_then (number_cell row 0) (λ firm.
    and_then (number_cell row 1) (λ number.
    Ok (record { firm = firm; number = number })))

-- the cells of a mass cancel (sheets 5)
abbrev pub read_mass_cancel : List ℕ → Result MassCancelForm Refusal
read_mass_cancel row =
    and_then (number_cell row 0) (λ firm.
    and_then (number_cell row 1) (λ side.
    and_then (number_cell row 2) (λ tag.
    and_then (number_cell row 3) (λ investor.
    Ok (record { firm = firm; side = side; tag = tag; investor = investor })))))

-- the cell of an opening (sheets 5)
abbrev pub read_opening : List ℕ → Result OpeningForm Refusal
read_opening row = and_then (number_cell row 0) (λ day. Ok (record { day = day }))

-- the cells of a row by its letter (sheets 5)
abbrev pub read_cells : Letter → List ℕ → Result Form Refusal
read_cells Entry row = and_then (read_entry row) (λ f. Ok (form.TheVariants.Entry f))
read_cells Change row = and_then (read_change row) (λ f. Ok (form.TheVariants.Change f))
read_cells Cancel row = and_then (read_cancel row) (λ f. Ok (form.TheVariants.Cancel f))
read_cells MassCancel row =
    and_then (read_mass_cancel row) (λ f. Ok (form.TheVariants.MassCancel f))
read_cells Closing row = Ok form.TheVariants.Closing
read_cells Opening row = and_then (read_opening row) (λ f. Ok (form.TheVariants.Opening f))

-- the refusal for the first misplaced cell (numbers 2)
abbrev pub misplaced_cell : Option ℕ → Result (Unit {0}) Refusal
misplaced_cell None = Ok tt
misplaced_cell (Some cell) = Err (CellMisplaced cell)

-- the count is the letter's, what follows it has room for the pairs, and none of them is misplaced
-- (numbers 2)
abbrev pub check_cells : Letter → (count : ℕ) → (rest row : List ℕ) → Result (Unit {0}) Refusal
check_cells letter count rest row =
    if not (count == cells_of letter) || nat_lt (length rest) (2 * count) then Err WrongCells
    else misplaced_cell (first_misplaced Cells row count)

-- a row by its letter, where that is known: the pairs, and then the cells (sheets 3, numbers 2)
abbrev pub read_lettered : Option Letter → (count : ℕ) → (rest row : List ℕ) → Result Form Refusal
read_lettered None count rest row = Err UnknownRow
read_lettered (Some letter) count rest row =
    and_then (check_cells letter count rest row) (λ checked. read_cells letter row)

-- a row: a letter, a cell count, and the rest (sheets 3)
abbrev pub read_form : List ℕ → Result Form Refusal
read_form [] = Err UnknownRow
read_form (byte ∷ []) = Err UnknownRow
read_form (byte ∷ (count ∷ rest)) =
    read_lettered (letter_of byte) count rest (byte ∷ (count ∷ rest))
