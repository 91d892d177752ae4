-- What becomes of a form that is to join the rows of a sheet.
use Rattle.std.proofs.Common.{◌≡◌, ℕ, ◌<◌, ◌≤◌, Bool, true, false, cond, List, [], ◌∷◌, ◌++◌, length, Some, None, Ok, Err, Option, ap, refl, le-leb, le-ltb, lt-ltb, arith}
use Rattle.std.proofs.lemmas.Bool.Decides.{nat_tests}
use Rattle.std.specs.Prelude.{nat_le, nat_lt}
use Rattle.forms.specs.declared.form.Form.{Form}
use Rattle.sheets.specs.FormBounds.{form_in_bounds}
use Rattle.sheet_writer.specs.declared.draft.Excess as excess
use Rattle.sheet_writer.specs.WrittenRows.{row_written, row_if_room, sheet_of}
use Rattle.sheet_writer.specs.Drafts.{Joined}

-- a form has a row exactly where its cells have room for its values
from_no_row : (b : Bool) (row : List ℕ) → ◌≡◌ {A = Option (List ℕ)} None (cond b (Some row) None) → b ≡ false
from_no_row true row e = cc
from_no_row false row e = refl

from_row : (b : Bool) (bs row : List ℕ) → Some bs ≡ cond b (Some row) None → (b ≡ true) × (bs ≡ row)
from_row true bs row e = (refl, cc)
from_row false bs row e = cc

-- no room for a value, no row more, no byte more, or a row that joins: looked for in this order
module _ (rs : List (List ℕ)) (f : Form) where
  pub no_value : None ≡ row_if_room f → Joined rs f rs (Err excess.TheVariants.Value)
  no_value e =
      let unfit = from_no_row (form_in_bounds f) (row_written f) e in
      record { answer = rw unfit refl; state = rw unfit refl }

  module _ (bs : List ℕ) (e : Some bs ≡ row_if_room f) where
    fit : form_in_bounds f ≡ true
    fit = (from_row (form_in_bounds f) bs (row_written f) e).0

    pub row_is : bs ≡ row_written f
    row_is = (from_row (form_in_bounds f) bs (row_written f) e).1

    pub no_row : 512 ≤ length rs → Joined rs f rs (Err excess.TheVariants.Rows)
    no_row h =
        let many = le-leb 512 (length rs) h in
        record { answer = rw (fit, many) refl; state = rw (fit, many) refl }

    module _ (few : length rs < 512) where
      room : ◌≡◌ {A = Bool} (nat_le 512 (length rs)) false
      room = grind (arith, nat_tests)

      pub no_byte : 65535 < length (sheet_of (rs ++ bs ∷ [])) → Joined rs f rs (Err excess.TheVariants.Bytes)
      no_byte h =
          let long : ◌≡◌ {A = Bool} (nat_lt 65535 (length (sheet_of (rs ++ row_written f ∷ [])))) true = rw row_is at (lt-ltb 65535 (length (sheet_of (rs ++ bs ∷ []))) h) in
          record { answer = rw (fit, room, long) refl; state = rw (fit, room, long) refl }

      pub joined : length (sheet_of (rs ++ bs ∷ [])) ≤ 65535 → Joined rs f (rs ++ bs ∷ []) (Ok tt)
      joined h =
          let short : ◌≡◌ {A = Bool} (nat_lt 65535 (length (sheet_of (rs ++ row_written f ∷ [])))) false = rw row_is at (le-ltb 65535 (length (sheet_of (rs ++ bs ∷ []))) h) in
          record { answer = rw (fit, room, short) refl; state = rw (fit, room, short) (ap (λ (r : List ℕ). rs ++ r ∷ []) row_is) }
