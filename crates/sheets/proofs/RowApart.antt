-- A row of two bytes or more is its letter, its cell count and the rest.
use Rattle.std.proofs.Common.{◌≡◌, ℕ, ◌≤◌, List, [], ◌∷◌, length, get_or, sym, ap, arith}
use Rattle.std.proofs.lemmas.List.{take_rest}
use Rattle.std.specs.List.{between}
use Rattle.sheets.specs.Letters.{letter_of}
use Rattle.sheets.specs.Rows.{read_lettered, read_form}

pub apart : (row : List ℕ) → 2 ≤ length row
    → read_form row ≡ read_lettered (letter_of (get_or row 0 0)) (get_or row 1 0) (between 2 (length row) row) row
apart [] h = absurd (omega arith)
apart (letter ∷ []) h = absurd (omega arith)
apart (letter ∷ (count ∷ rest)) h =
    ap (λ (xs : List ℕ). read_lettered (letter_of letter) count xs (letter ∷ (count ∷ rest))) (sym (take_rest (letter ∷ (count ∷ rest)) 2))
