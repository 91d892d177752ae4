-- The rows of a sheet, one after another.
use Rattle.std.proofs.Common.{◌≡◌, ℕ, suc, ◌+◌, ◌-◌, Bool, true, false, cond, ltb, List, Some, None, sym, refl, ap, ◌∙◌, arith}
use Rattle.std.proofs.lemmas.Bool.{ltb-true, ltb-false}
use Rattle.sheets.specs.declared.sheet.Sheet.{Sheet}
use Rattle.sheets.specs.declared.sheet.Drawn.{Drawn}
use Rattle.sheets.specs.Layout.{word}
use Rattle.sheets.specs.Sheets.{row_bytes, next_row, IsDrawn, after_draw, rows_left, JustRead}
use Rattle.sheet_runner.specs.SheetRuns.{SheetRun, after_row, after_rows}

-- the rows of a sheet that are still to be drawn are worked
abbrev pub rows_to_come : Sheet → SheetRun → SheetRun
rows_to_come s d = after_rows (rows_left s) s.done s.bytes.now d

one_row : (n m k : ℕ) (bs : List ℕ) (d : SheetRun) → n ≡ suc m → after_rows n k bs d ≡ after_rows m (k + 1) bs (after_row (k + 1) (row_bytes bs k) d)
unfolding after_rows
one_row n m k bs d e = rw e refl

no_rows : (n k : ℕ) (bs : List ℕ) (d : SheetRun) → n ≡ 0 → after_rows n k bs d ≡ d
unfolding after_rows
no_rows n k bs d e = rw e refl

-- a row that is drawn is the next one
pub a_row : (s : Sheet) (x : Drawn) (d : SheetRun) → IsDrawn (next_row s) (Some x) → rows_to_come (after_draw s) (after_row x.slip.row x.bytes.now d) ≡ rows_to_come s d
a_row s x d h = go (ltb s.done s.count) refl h
  where
    go : (b : Bool) → ltb s.done s.count ≡ b → IsDrawn (cond b (Some (s.done + 1, row_bytes s.bytes.now s.done)) None) (Some x) → rows_to_come (after_draw s) (after_row x.slip.row x.bytes.now d) ≡ rows_to_come s d
    go true e h =
        let l = ltb-true s.done s.count e in
        rw (e, h.0, h.1) (sym (one_row (s.count - s.done) (s.count - (s.done + 1)) s.done s.bytes.now d (omega arith)))
    go false e h = absurd h

-- after the last row none is drawn
pub no_row : (s : Sheet) (d : SheetRun) → IsDrawn (next_row s) None → d ≡ rows_to_come s d
no_row s d h = go (ltb s.done s.count) refl h
  where
    go : (b : Bool) → ltb s.done s.count ≡ b → IsDrawn (cond b (Some (s.done + 1, row_bytes s.bytes.now s.done)) None) None → d ≡ rows_to_come s d
    go true e h = absurd h
    go false e h = let l = ltb-false s.done s.count e in sym (no_rows (s.count - s.done) s.done s.bytes.now d (omega arith))

pub from_the_first : (bs : List ℕ) (s : Sheet) (d : SheetRun) → JustRead bs s → rows_to_come s d ≡ after_rows (word bs 0) 0 bs d
from_the_first bs s d b =
    let n : s.count - s.done ≡ word bs 0 = omega (arith, b.count, b.done) in
    ap (λ k. after_rows k s.done s.bytes.now d) n
    ∙ ap (λ k. after_rows (word bs 0) k s.bytes.now d) b.done
    ∙ ap (λ (l : List ℕ). after_rows (word bs 0) 0 l d) b.bytes
