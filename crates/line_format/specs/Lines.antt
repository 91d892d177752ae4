-- Lines, read: no row, a form, or the word that the line is refused for (lines 1).
use Rattle.std.specs.Prelude.{ℕ, zero, suc, ◌+◌, List, length, Some, None, Ok, Err, Option, Result, ◌==◌, slice_index_or, if◌then◌else◌}
use Rattle.orders.specs.declared.price.Price as price
use Rattle.forms.specs.declared.form.EntryForm.{EntryForm}
use Rattle.forms.specs.declared.form.ChangeForm.{ChangeForm}
use Rattle.forms.specs.declared.form.CancelForm.{CancelForm}
use Rattle.forms.specs.declared.form.MassCancelForm.{MassCancelForm}
use Rattle.forms.specs.declared.form.OpeningForm.{OpeningForm}
use Rattle.forms.specs.declared.form.Form as form
use Rattle.forms.specs.declared.form.Form.{Form}
use Rattle.sheets.specs.Layout.{part}
use Rattle.sheets.specs.declared.letter.Letter.{Letter}
use Rattle.sheets.specs.declared.letter.Letter.TheVariants.{Entry, Change, Cancel, MassCancel, Closing, Opening}
use Rattle.line_format.specs.declared.values.Value.{Value}
use Rattle.line_format.specs.declared.values.Value.TheVariants.{Number, Byte, Price}
use Rattle.line_format.specs.declared.words.Word.{Word}
use Rattle.line_format.specs.declared.words.BadWord.{BadWord}
use Rattle.line_format.specs.Words.{next_word, bad_word}
use Rattle.line_format.specs.Columns.{letter_word}
use Rattle.line_format.specs.LineCells.{Values, blank_cells, with_word}

-- the number in a cell, where it has one
abbrev pub cell_number : Option Value → Option ℕ
cell_number (Some (Number number)) = Some number
cell_number _ = None

-- the byte in a cell, where it has one
abbrev pub cell_byte : Option Value → Option ℕ
cell_byte (Some (Byte byte)) = Some byte
cell_byte _ = None

-- the price in a cell, where it has one
abbrev pub cell_price : Option Value → Option price.Price
cell_price (Some (Price price)) = Some price
cell_price _ = None

-- the form of an entry, by its cells in the order of the columns (sheets 5)
abbrev pub entry_form : Values → EntryForm
entry_form cells = record {
  firm = cell_number (slice_index_or cells 0 None);
  client = cell_number (slice_index_or cells 1 None);
  side = cell_number (slice_index_or cells 2 None);
  order_type = cell_byte (slice_index_or cells 3 None);
  validity = cell_number (slice_index_or cells 4 None);
  price = cell_price (slice_index_or cells 5 None);
  trigger = cell_price (slice_index_or cells 6 None);
  quantity = cell_number (slice_index_or cells 7 None);
  disclosed = cell_number (slice_index_or cells 8 None);
  minimum = cell_number (slice_index_or cells 9 None);
  investor = cell_number (slice_index_or cells 10 None);
  tag = cell_number (slice_index_or cells 11 None);
}

-- the form of a change (sheets 5)
abbrev pub change_form : Values → ChangeForm
change_form cells = record {
  firm = cell_number (slice_index_or cells 0 None);
  client = cell_number (slice_index_or cells 1 None);
  number = cell_number (slice_index_or cells 2 None);
  price = cell_price (slice_index_or cells 3 None);
  quantity = cell_number (slice_index_or cells 4 None);
  disclosed = cell_number (slice_index_or cells 5 None);
  validity = cell_number (slice_index_or cells 6 None);
}

-- the form of a cancel (sheets 5)
abbrev pub cancel_form : Values → CancelForm
cancel_form cells = record {
  firm = cell_number (slice_index_or cells 0 None);
  number = cell_number (slice_index_or cells 1 None);
}

-- the form of a mass cancel (sheets 5)
abbrev pub mass_cancel_form : Values → MassCancelForm
mass_cancel_form cells = record {
  firm = cell_number (slice_index_or cells 0 None);
  side = cell_number (slice_index_or cells 1 None);
  tag = cell_number (slice_index_or cells 2 None);
  investor = cell_number (slice_index_or cells 3 None);
}

-- the form of an opening (sheets 5)
abbrev pub opening_form : Values → OpeningForm
opening_form cells = record { day = cell_number (slice_index_or cells 0 None) }

-- the form of a letter's cells (sheets 5)
abbrev pub form_of : Letter → Values → Form
form_of Entry cells = form.TheVariants.Entry (entry_form cells)
form_of Change cells = form.TheVariants.Change (change_form cells)
form_of Cancel cells = form.TheVariants.Cancel (cancel_form cells)
form_of MassCancel cells = form.TheVariants.MassCancel (mass_cancel_form cells)
form_of Closing cells = form.TheVariants.Closing
form_of Opening cells = form.TheVariants.Opening (opening_form cells)

-- a line is refused for a word that fills no cell (lines 1)
abbrev pub or_refused : Option Values → Word → (rest : Values → Result Values BadWord)
    → Result Values BadWord
or_refused None word rest = Err (bad_word word)
or_refused (Some cells) word rest = rest cells

-- a word fills its cell, and then the words after it theirs; no word is left where it has no bytes
-- (lines 1)
abbrev pub read_word : Letter → (line : List ℕ) → Word → Values
    → (rest : Values → Result Values BadWord) → Result Values BadWord
read_word letter line word cells rest =
    if word.size == 0 then Ok cells
    else or_refused (with_word letter cells (part line word.start word.size)) word rest

-- the cells after at most n words from an offset on (lines 1)
unfoldable pub read_words : (n : ℕ) → Letter → (line : List ℕ) → (at : ℕ) → Values
    → Result Values BadWord
read_words zero letter line at cells = Ok cells
read_words (suc n) letter line at cells =
    let word = next_word line at in
    read_word letter line word cells
    (λ filled. read_words n letter line (word.start + word.size) filled)

-- the cells that all words from an offset on fill; a line has no more words than bytes (lines 1)
abbrev pub cells_from : Letter → (line : List ℕ) → (at : ℕ) → Result Values BadWord
cells_from letter line at = read_words (length line) letter line at blank_cells

-- the form of the cells, where no word is refused
abbrev pub form_if_read : Letter → Result Values BadWord → Result (Option Form) BadWord
form_if_read letter (Ok cells) = Ok (Some (form_of letter cells))
form_if_read letter (Err word) = Err word

-- a line by its letter, where that is known: the words after it (lines 1)
abbrev pub lettered : Option Letter → (first : Word) → (line : List ℕ)
    → Result (Option Form) BadWord
lettered None first line = Err (bad_word first)
lettered (Some letter) first line =
    form_if_read letter (cells_from letter line (first.start + first.size))

-- a line by its first word: no row where that has no bytes (lines 1)
abbrev pub first_read : (first : Word) → (line : List ℕ) → Result (Option Form) BadWord
first_read first line =
    if first.size == 0 then Ok None
    else lettered (letter_word (part line first.start first.size)) first line

-- what a line is read as: by its first word (lines 1)
abbrev pub read_line : List ℕ → Result (Option Form) BadWord
read_line line = first_read (next_word line 0) line
