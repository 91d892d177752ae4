-- Reversed lists: what is set, put in and removed at an index counted from one end is so at the
-- index counted from the other.
use Rattle.std.proofs.Common.{◌≡◌, ℕ, suc, ◌+◌, List, [], ◌∷◌, ◌++◌, length, take, drop, set, reverse, sym, refl, ap, ◌∙◌, arith}
use Rattle.std.specs.List.{insert, remove}
use Rattle.std.proofs.lemmas.List.{reverse-append, length-reverse, take-append-drop, length-drop, take_at, drop_at, append_assoc, set_split}

module _ {X : Type 0} (xs : List X) where
  -- the first p of the list that is turned are the last p, turned; the rest are the others, turned
  turned_parts : (j : ℕ) → reverse xs ≡ reverse (drop j xs) ++ reverse (take j xs)
  turned_parts j = ap reverse (sym (take-append-drop j xs)) ∙ reverse-append (take j xs) (drop j xs)

  turned_front : (j p : ℕ) → j + p ≡ length xs → take p (reverse xs) ≡ reverse (drop j xs)
  turned_front j p e =
      let n : length (reverse (drop j xs)) ≡ p = length-reverse (drop j xs) ∙ length-drop j xs ∙ omega arith in
      ap (take p) (turned_parts j) ∙ take_at (reverse (drop j xs)) (reverse (take j xs)) p n

  turned_rest : (j p : ℕ) → j + p ≡ length xs → drop p (reverse xs) ≡ reverse (take j xs)
  turned_rest j p e =
      let n : length (reverse (drop j xs)) ≡ p = length-reverse (drop j xs) ∙ length-drop j xs ∙ omega arith in
      ap (drop p) (turned_parts j) ∙ drop_at (reverse (drop j xs)) (reverse (take j xs)) p n

  -- x between two parts
  turned_between : (l r : List X) (x : X) → reverse (l ++ (x ∷ r)) ≡ reverse r ++ (x ∷ reverse l)
  turned_between l r x =
      reverse-append l (x ∷ r) ∙ ap (λ (z : List X). z ++ reverse l) (reverse-append (x ∷ []) r) ∙ append_assoc (reverse r) (x ∷ []) (reverse l)

  pub turned_insert : (j p : ℕ) (x : X) → j + p ≡ length xs → reverse (insert xs j x) ≡ insert (reverse xs) p x
  turned_insert j p x e = turned_between (take j xs) (drop j xs) x ∙ rw (turned_front j p e, turned_rest j p e) refl

  pub turned_remove : (j p : ℕ) → j + 1 + p ≡ length xs → reverse (remove xs j) ≡ remove (reverse xs) p
  turned_remove j p e =
      reverse-append (take j xs) (drop (suc j) xs)
      ∙ rw (turned_front (suc j) p (omega arith), turned_rest j (suc p) (omega arith)) refl

  pub turned_set : (j p : ℕ) (x : X) → j + 1 + p ≡ length xs → reverse (set xs j x) ≡ set (reverse xs) p x
  turned_set j p x e =
      ap reverse (set_split xs j x (omega arith))
      ∙ turned_between (take j xs) (drop (suc j) xs) x
      ∙ rw (← turned_front (suc j) p (omega arith), ← turned_rest j (suc p) (omega arith)) (sym (set_split (reverse xs) p x (omega (arith, length-reverse xs))))
