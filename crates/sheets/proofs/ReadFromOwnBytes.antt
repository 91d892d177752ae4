-- A row, and a cell, is read from the bytes that its pair names and from no other byte.
use Rattle.std.proofs.Common.{◌≡◌, ℕ, ◌+◌, ◌<◌, ◌≤◌, List, length, get_or, drop, Some, None, Ok, Err, Option, Result, sym, refl, ap, ◌∙◌, arith}
use Rattle.std.proofs.lemmas.List.{length-take, length-drop, get_or-take, get_or-drop, ext_get_or}
use Rattle.std.proofs.lemmas.Bool.Decides.{nat_tests}
use Rattle.forms.specs.declared.refusal.Refusal.{Refusal}
use Rattle.sheets.specs.OwnBytes.{RowAlone, CellAlone}
use Rattle.sheets.specs.Layout.{word, part, offset_at, length_at, first_misplaced, part_at}
use Rattle.sheets.specs.Rows.{read_form, in_cell}
use Rattle.sheets.specs.Cells.{read_number, read_price, read_type}
use Rattle.sheets.specs.Sheets.{sheet_refusal, directory_refusal, misplaced_row, row_count}
use Rattle.sheets.specs.declared.directory.Directory.TheVariants.{Rows, Cells}
use Rattle.sheets.proofs.PairsInside.{inside}

-- the same bytes, one by one, are the same part
pub same_part : (a b : List ℕ) (p q m n : ℕ) → p + m ≤ length a → q + n ≤ length b → m ≡ n
    → ((i : ℕ) → i < m → get_or a (p + i) 0 ≡ get_or b (q + i) 0) → part a p m ≡ part b q n
same_part a b p q m n ha hb e same =
    let la : length (part a p m) ≡ m = omega (arith, length-take m (drop p a), length-drop p a) in
    let lb : length (part b q n) ≡ n = omega (arith, length-take n (drop q b), length-drop q b) in
    ext_get_or 0 (part a p m) (part b q n) (la ∙ e ∙ sym lb)
    (λ i h. get_or-take m (drop p a) i 0 (omega arith) ∙ get_or-drop p a i 0 ∙ same i (omega arith)
    ∙ sym (get_or-drop q b i 0) ∙ sym (get_or-take n (drop q b) i 0 (omega arith)))

-- an accepted sheet has no misplaced row
no_row : (bs : List ℕ) → sheet_refusal bs ≡ None → first_misplaced Rows bs (word bs 0) ≡ None
no_row bs e = counted (row_count bs) refl e
  where
    none : (o : Option ℕ) → misplaced_row o ≡ None → o ≡ None
    none None q = refl
    none (Some row) q = cc

    counted : (r : Result ℕ Refusal) → row_count bs ≡ r → directory_refusal bs r ≡ None → first_misplaced Rows bs (word bs 0) ≡ None
    counted (Err x) p q = cc
    counted (Ok rows) p q =
        let same : rows ≡ word bs 0 = grind (arith, nat_tests) in
        rw same at (none (first_misplaced Rows bs rows) q)

pub row_alone : RowAlone
unfolding RowAlone
row_alone a b j k ra ja rb kb g =
    ap read_form (same_part a b (offset_at Rows a j) (offset_at Rows b k) (length_at Rows a j) (length_at Rows b k)
    (inside Rows a (word a 0) 0 _ (no_row a ra) j (omega arith) (omega arith))
    (inside Rows b (word b 0) 0 _ (no_row b rb) k (omega arith) (omega arith)) g.0 g.1)

pub cell_alone : CellAlone
unfolding CellAlone
cell_alone a b k ma ka mb kb g =
    let e : part_at Cells a k ≡ part_at Cells b k =
    same_part a b (offset_at Cells a k) (offset_at Cells b k) (length_at Cells a k) (length_at Cells b k)
    (inside Cells a (get_or a 1 0) 0 _ ma k (omega arith) (omega arith))
    (inside Cells b (get_or b 1 0) 0 _ mb k (omega arith) (omega arith)) g.0 g.1 in
    (ap (λ (c : List ℕ). in_cell k (read_number c)) e, ap (λ (c : List ℕ). in_cell k (read_price c)) e, ap (λ (c : List ℕ). in_cell k (read_type c)) e)
