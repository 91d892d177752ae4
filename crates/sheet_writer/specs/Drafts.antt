-- A sheet that is being written, row by row (lines 2).
use Rattle.std.specs.Prelude.{◌≡◌, ℕ, true, not, List, [], ◌∷◌, ◌++◌, length, map, take, drop, Ok, Err, Result, vec_items, nat_le, nat_lt, if◌then◌else◌}
use Rattle.std.specs.List.{list_all}
use Rattle.std.specs.Result.{is_ok}
use Rattle.forms.specs.declared.form.Form.{Form}
use Rattle.sheets.specs.FormBounds.{form_in_bounds}
use Rattle.sheets.specs.declared.sheet.TheConstants.{MOST_ROWS, MOST_BYTES}
use Rattle.sheet_writer.specs.declared.draft.Draft.{Draft}
use Rattle.sheet_writer.specs.declared.draft.Excess.{Excess}
use Rattle.sheet_writer.specs.declared.draft.Excess.TheVariants.{Value, Rows, Bytes}
use Rattle.sheet_writer.specs.WrittenRows.{row_written, sheet_of}

-- bytes cut into parts of these lengths
abbrev pub cut_by_lengths : (lengths bytes : List ℕ) → List (List ℕ)
cut_by_lengths [] bytes = []
cut_by_lengths (first ∷ rest) bytes = take first bytes ∷ cut_by_lengths rest (drop first bytes)

-- the rows of a draft
abbrev pub rows : Draft → List (List ℕ)
rows draft = cut_by_lengths (vec_items draft.rows.lengths) (vec_items draft.rows.bytes)

-- whether the row of a form joins some rows, or why it cannot (sheets 1, 4, lines 2)
abbrev pub joins : (before : List (List ℕ)) → Form → Result (Unit {0}) Excess
joins before form =
    if not (form_in_bounds form) then Err Value
    else if nat_le MOST_ROWS (length before) then Err Rows
    else if nat_lt MOST_BYTES (length (sheet_of (before ++ row_written form ∷ []))) then Err Bytes
    else Ok tt

-- the rows afterwards (lines 2)
abbrev pub with_form : (before : List (List ℕ)) → Form → List (List ℕ)
with_form before form =
    if is_ok (joins before form) then before ++ row_written form ∷ [] else before

-- a form was to join some rows: the answer, and the rows afterwards
pub record Joined (before : List (List ℕ)) (form : Form) (after : List (List ℕ))
    (result : Result (Unit {0}) Excess) : Type 0 where
  pub answer : result ≡ joins before form
  pub state : after ≡ with_form before form

-- a draft has the rows of some forms and no other, and the cells of each form have room for its
-- values
pub record DraftHolds (draft : Draft) (forms : List Form) : Type 0 where
  pub written : rows draft ≡ map row_written forms
  pub fit : list_all form_in_bounds forms ≡ true
