-- The lines of a text, one after another.
use Rattle.std.proofs.Common.{◌≡◌, ℕ, zero, suc, ◌+◌, ◌-◌, ◌<◌, ◌≤◌, List, [], ◌∷◌, length, get_or, drop, Some, Ok, Err, Result, sym, ap, ◌∙◌, refl, length-take, length-drop, arith}
use Rattle.std.specs.List.{slice_get}
use Rattle.std.proofs.lemmas.List.{drop_more, drop_all}
use Rattle.forms.specs.declared.form.Form.{Form}
use Rattle.text_sheets.specs.declared.refused.Refused.{Refused}
use Rattle.forms.specs.Results.{and_then}
use Rattle.text_sheets.specs.FormsOfLines.{lines_of_text, with_line, named_from, RefusedInLine, Blames}

module _ (ls : List (List ℕ)) (k : ℕ) (forms : List Form) where
  -- after the last line
  pub no_more : length ls ≤ k → named_from (k + 1) (drop k ls) forms ≡ Ok forms
  no_more h = ap (λ (xs : List (List ℕ)). named_from (k + 1) xs forms) (drop_all k ls h)

  module _ (line : List ℕ) (there : (k < length ls) × (line ≡ get_or ls k line)) where
    one_more : named_from (k + 1) (drop k ls) forms ≡ and_then (with_line (k + 1) line forms) (named_from (k + 1 + 1) (drop (k + 1) ls))
    one_more =
        ap (λ (xs : List (List ℕ)). named_from (k + 1) xs forms) (drop_more ls k line there.0)
        ∙ ap (λ (x : List ℕ). and_then (with_line (k + 1) x forms) (named_from (k + 1 + 1) (drop (k + 1) ls))) (sym there.1)

    -- what the text names, whatever it is, is what the first line and the others name
    module _ (whole : Result (List Form) Refused) (named : named_from (k + 1) (drop k ls) forms ≡ whole) where
      pub refused_here : (e : Refused) → with_line (k + 1) line forms ≡ Err e → whole ≡ Err e
      refused_here e h = sym named ∙ one_more ∙ rw h refl

      pub taken_here : (after : List Form) → with_line (k + 1) line forms ≡ Ok after
          → named_from (k + 1 + 1) (drop (k + 1) ls) after ≡ whole
      taken_here after h = sym (one_more ∙ rw h refl) ∙ named

-- the line of a number, and the word in it that is to blame
line_at : (ls : List (List ℕ)) (k : ℕ) (line : List ℕ) → k < length ls → line ≡ get_or ls k line → slice_get ls k ≡ Some line
line_at [] k line h e = absurd (omega arith)
line_at (l ∷ ls) zero line h e = ap (λ (x : List ℕ). Some x) (sym e)
line_at (l ∷ ls) (suc k) line h e = line_at ls k line (omega arith) e

pub blamed : (text line : List ℕ) (k : ℕ) (r : Refused) → (k < length (lines_of_text text)) × (line ≡ get_or (lines_of_text text) k line)
    → RefusedInLine (k + 1) (length line) r → Blames text r
blamed text line k r there i =
    let same : r.line - 1 ≡ k = omega (arith, i.numbered) in
    let found : slice_get (lines_of_text text) (r.line - 1) ≡ Some line = rw same (line_at (lines_of_text text) k line there.0 there.1) in
    record {
      counted = omega (arith, i.numbered);
      some = i.some;
      whole = rw found (omega (arith, length-take r.length (drop (r.place - 1) line), length-drop (r.place - 1) line, i.inside, i.from_1));
    }
