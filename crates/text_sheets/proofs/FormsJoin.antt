-- A form that joins the rows of some forms joins the forms.
use Rattle.std.proofs.Common.{◌≡◌, ℕ, Bool, true, false, cond, not, List, [], ◌∷◌, ◌++◌, length, map, Ok, Err, Result, sym, ap, ◌∙◌, refl}
use Rattle.std.specs.Prelude.{nat_le, nat_lt}
use Rattle.std.proofs.lemmas.List.{length-map, map-append}
use Rattle.std.proofs.lemmas.List.Folds.{list_all-append}
use Rattle.std.specs.List.{list_all}
use Rattle.forms.specs.declared.form.Form.{Form}
use Rattle.sheets.specs.FormBounds.{form_in_bounds}
use Rattle.sheet_writer.specs.Drafts.{joins, with_form}
use Rattle.sheet_writer.specs.WrittenRows.{row_written, sheet_of, sheet_written}
use Rattle.sheet_writer.specs.declared.draft.Excess as excess
use Rattle.text_sheets.specs.FormsOfLines.{joined}

from_tests : (a b c : Bool) → ◌≡◌ {A = Result (Unit {0}) excess.Excess} (Ok tt)
    (cond (not a) (Err excess.TheVariants.Value) (cond b (Err excess.TheVariants.Rows) (cond c (Err excess.TheVariants.Bytes) (Ok tt))))
    → (b ≡ false) × (c ≡ false)
from_tests false b c e = cc
from_tests true true c e = cc
from_tests true false true e = cc
from_tests true false false e = (refl, refl)

module _ (n : ℕ) (line : List ℕ) (forms : List Form) (f : Form) where
  more : map row_written (forms ++ f ∷ []) ≡ map row_written forms ++ row_written f ∷ []
  more = map-append row_written forms (f ∷ [])

  pub all_fit : list_all form_in_bounds forms ≡ true → form_in_bounds f ≡ true → list_all form_in_bounds (forms ++ f ∷ []) ≡ true
  all_fit all fit = list_all-append form_in_bounds forms (f ∷ []) ∙ rw (all, fit) refl

  pub forms_join : (rs : List (List ℕ)) → rs ≡ map row_written forms → Ok tt ≡ joins rs f
      → (joined n line forms f ≡ Ok (forms ++ f ∷ [])) × (with_form rs f ≡ map row_written (forms ++ f ∷ []))
  forms_join rs e answer =
      let t = from_tests (form_in_bounds f) (nat_le 512 (length rs)) (nat_lt 65535 (length (sheet_of (rs ++ row_written f ∷ [])))) answer in
      let few : ◌≡◌ {A = Bool} (nat_le 512 (length forms)) false = ap (nat_le 512) (sym (length-map forms row_written) ∙ ap length (sym e)) ∙ t.0 in
      let same : rs ++ row_written f ∷ [] ≡ map row_written (forms ++ f ∷ []) = rw e (sym more) in
      let short : ◌≡◌ {A = Bool} (nat_lt 65535 (length (sheet_written (forms ++ f ∷ [])))) false =
      ap (λ (r : List (List ℕ)). nat_lt 65535 (length (sheet_of r))) (sym same) ∙ t.1 in
      (rw (few, short) refl, rw (← answer) same)
