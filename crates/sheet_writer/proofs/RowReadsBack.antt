-- A row that is written reads as its form.
use Rattle.std.proofs.Common.{◌≡◌, ℕ, zero, suc, ◌*◌, ◌≤◌, Bool, true, false, ◌&&◌, List, [], ◌∷◌, ◌++◌, length, map, subst, Some, None, Ok, Option, ap, ◌∙◌, refl, ltb-true, length-append, arith}
use Rattle.std.proofs.lemmas.Bool.Decides.{nat_tests}
use Rattle.std.proofs.lemmas.List.{length-map}
use Rattle.std.specs.Prelude.{◌==◌, nat_lt}
use Rattle.std.specs.List.{concat, slice_get, list_all}
use Rattle.forms.specs.declared.form.Form as form
use Rattle.forms.specs.declared.form.Form.{Form}
use Rattle.sheets.specs.FormBounds.{form_in_bounds, number_in_bounds}
use Rattle.sheets.specs.Cells.{read_number, read_price, read_type}
use Rattle.sheets.specs.Layout.{part_at, first_misplaced, directory_end}
use Rattle.sheets.specs.Letters.{letter_of, cells_of}
use Rattle.sheets.specs.Rows.{number_cell, price_cell, type_cell, in_cell, read_cells, check_cells, read_form}
use Rattle.sheets.specs.declared.directory.Directory.TheVariants.{Cells}
use Rattle.sheets.specs.declared.letter.Letter.{Letter}
use Rattle.sheets.specs.declared.letter.Letter.TheVariants.{Entry, Change, Cancel, MassCancel, Closing, Opening}
use Rattle.sheet_writer.specs.declared.cell.Cell.{Cell}
use Rattle.sheet_writer.specs.declared.cell.Cell.TheVariants.{Number, OneByte, Price}
use Rattle.sheet_writer.specs.CellTexts.{letter, letter_byte, cells, text, has_room}
use Rattle.sheet_writer.specs.PackedParts.{pairs}
use Rattle.sheet_writer.specs.WrittenRows.{row_written}
use Rattle.sheet_writer.proofs.DigitsReadBack.{number_back, price_back}
use Rattle.sheet_writer.proofs.PartsNamed.{packed_keeps, packed_part, directory_size}

-- an element that is mapped, and one of a list that passes a test
pub mapped_at : {A B : Type 0} (g : A → B) (xs : List A) (k : ℕ) (x : A) → slice_get xs k ≡ Some x → slice_get (map g xs) k ≡ Some (g x)
mapped_at g [] k x e = cc
mapped_at g (y ∷ ys) zero x e = cc
mapped_at g (y ∷ ys) (suc k) x e = mapped_at g ys k x e

pub passes_at : {A : Type 0} (p : A → Bool) (xs : List A) (k : ℕ) (x : A) → list_all p xs ≡ true → slice_get xs k ≡ Some x → p x ≡ true
passes_at p [] k x h e = cc
passes_at p (y ∷ ys) zero x h e = grind arith
passes_at p (y ∷ ys) (suc k) x h e = passes_at p ys k x (grind arith) e

-- the text of a cell reads as the cell
number_text : (x : Option ℕ) → has_room (Number x) ≡ true → read_number (text (Number x)) ≡ Ok x
number_text None h = refl
number_text (Some n) h = number_back n (ltb-true n 1000000000000 h)

price_text : (x : Option _) → has_room (Price x) ≡ true → read_price (text (Price x)) ≡ Ok x
price_text None h = refl
price_text (Some p) h = price_back p.hundredths (ltb-true p.hundredths 100000000 h)

type_text : (x : Option ℕ) → read_type (text (OneByte x)) ≡ Ok x
type_text None = refl
type_text (Some b) = refl

-- a row has a cell k
abbrev Has : List ℕ → ℕ → Cell → Type 0
Has row k (Number x) = number_cell row k ≡ Ok x
Has row k (OneByte x) = type_cell row k ≡ Ok x
Has row k (Price x) = price_cell row k ≡ Ok x

has_from_text : (row : List ℕ) (k : ℕ) (c : Cell) → part_at Cells row k ≡ text c → has_room c ≡ true → Has row k c
has_from_text row k (Number x) e h = ap (λ (bs : List ℕ). in_cell k (read_number bs)) e ∙ ap (in_cell k) (number_text x h)
has_from_text row k (OneByte x) e h = ap (λ (bs : List ℕ). in_cell k (read_type bs)) e ∙ ap (in_cell k) (type_text x)
has_from_text row k (Price x) e h = ap (λ (bs : List ℕ). in_cell k (read_price bs)) e ∙ ap (in_cell k) (price_text x h)

-- a row that has the cells of a form reads as the form
cells_read : (row : List ℕ) (f : Form) → ((k : ℕ) (c : Cell) → slice_get (cells f) k ≡ Some c → Has row k c) → read_cells (letter f) row ≡ Ok f
cells_read row (form.TheVariants.Entry f) h =
    rw (
      h 0 (Number f.firm) refl,
      h 1 (Number f.client) refl,
      h 2 (Number f.side) refl,
      h 3 (OneByte f.order_type) refl,
      h 4 (Number f.validity) refl,
      h 5 (Price f.price) refl,
      h 6 (Price f.trigger) refl,
      h 7 (Number f.quantity) refl,
      h 8 (Number f.disclosed) refl,
      h 9 (Number f.minimum) refl,
      h 10 (Number f.investor) refl,
      h 11 (Number f.tag) refl,
    ) refl
cells_read row (form.TheVariants.Change f) h =
    rw (
      h 0 (Number f.firm) refl,
      h 1 (Number f.client) refl,
      h 2 (Number f.number) refl,
      h 3 (Price f.price) refl,
      h 4 (Number f.quantity) refl,
      h 5 (Number f.disclosed) refl,
      h 6 (Number f.validity) refl,
    ) refl
cells_read row (form.TheVariants.Cancel f) h = rw (h 0 (Number f.firm) refl, h 1 (Number f.number) refl) refl
cells_read row (form.TheVariants.MassCancel f) h =
    rw (h 0 (Number f.firm) refl, h 1 (Number f.side) refl, h 2 (Number f.tag) refl, h 3 (Number f.investor) refl) refl
cells_read row form.TheVariants.Closing h = refl
cells_read row (form.TheVariants.Opening f) h = rw (h 0 (Number f.day) refl) refl

as_many_cells : (f : Form) → length (cells f) ≡ cells_of (letter f)
as_many_cells (form.TheVariants.Entry f) = refl
as_many_cells (form.TheVariants.Change f) = refl
as_many_cells (form.TheVariants.Cancel f) = refl
as_many_cells (form.TheVariants.MassCancel f) = refl
as_many_cells form.TheVariants.Closing = refl
as_many_cells (form.TheVariants.Opening f) = refl

letter_back : (l : Letter) → letter_of (letter_byte l) ≡ Some l
letter_back Entry = refl
letter_back Change = refl
letter_back Cancel = refl
letter_back MassCancel = refl
letter_back Closing = refl
letter_back Opening = refl

-- a row with the letter, count and pairs of its cells is read cell by cell
form_read : (l : Letter) (count : ℕ) (rest : List ℕ) (f : Form) → count ≡ cells_of l → 2 * count ≤ length rest
    → first_misplaced Cells (letter_byte l ∷ (count ∷ rest)) count ≡ None → read_cells l (letter_byte l ∷ (count ∷ rest)) ≡ Ok f
    → read_form (letter_byte l ∷ (count ∷ rest)) ≡ Ok f
form_read l count rest f e long keeps read =
    let same : ◌≡◌ {A = Bool} (count == cells_of l) true = grind (arith, nat_tests) in
    let room : ◌≡◌ {A = Bool} (nat_lt (length rest) (2 * count)) false = grind (arith, nat_tests) in
    let checked : check_cells l count rest (letter_byte l ∷ (count ∷ rest)) ≡ Ok tt = rw (same, room, keeps) refl in
    rw (letter_back l, checked) read

-- a row has room for a form exactly where each of its cells has room
last_alone : (b : Bool) → (b && true) ≡ b
last_alone true = refl
last_alone false = refl

pub fits_by_cells : (f : Form) → list_all has_room (cells f) ≡ form_in_bounds f
fits_by_cells (form.TheVariants.Entry f) = rw (last_alone (number_in_bounds f.tag)) refl
fits_by_cells (form.TheVariants.Change f) = rw (last_alone (number_in_bounds f.validity)) refl
fits_by_cells (form.TheVariants.Cancel f) = rw (last_alone (number_in_bounds f.number)) refl
fits_by_cells (form.TheVariants.MassCancel f) = rw (last_alone (number_in_bounds f.investor)) refl
fits_by_cells form.TheVariants.Closing = refl
fits_by_cells (form.TheVariants.Opening f) = last_alone (number_in_bounds f.day)

abbrev head : Form → List ℕ
head f = letter_byte (letter f) ∷ length (cells f) ∷ []

pub row_back : (f : Form) → form_in_bounds f ≡ true → read_form (row_written f) ≡ Ok f
row_back f h =
    let parts = map text (cells f) in
    let at = directory_end Cells (length (map length parts)) in
    let long : 2 * length (cells f) ≤ length (pairs Cells at (map length parts) ++ concat parts) =
    omega (arith, length-append (pairs Cells at (map length parts)) (concat parts), directory_size Cells at (map length parts), length-map parts length, length-map (cells f) text) in
    let keeps : first_misplaced Cells (row_written f) (length (cells f)) ≡ None =
    subst (λ (n : ℕ). first_misplaced Cells (row_written f) n ≡ None) (length-map (cells f) text) (packed_keeps Cells (head f) parts refl) in
    let has = λ (k : ℕ) (c : Cell) (e : slice_get (cells f) k ≡ Some c).
    has_from_text (row_written f) k c (packed_part Cells (head f) parts refl k (text c) (mapped_at text (cells f) k c e)) (passes_at has_room (cells f) k c (fits_by_cells f ∙ h) e) in
    form_read (letter f) (length (cells f)) _ f (as_many_cells f) long keeps (cells_read (row_written f) f has)
