-- A test that every row of a list passes: after one is put in, removed or replaced, and what it says of a number.
use Rattle.std.proofs.Common.{◌≡◌, ℕ, zero, suc, Bool, true, false, not, eqb, ◌||◌, List, [], ◌∷◌, ◌++◌, length, take, drop, set, true≢false, sym, refl, ◌∙◌, arith}
use Rattle.std.specs.List.{list_all, list_any, prefix_len, insert, remove}
use Rattle.std.proofs.lemmas.Bool.{and_parts, and_from}
use Rattle.std.proofs.lemmas.List.Folds.{list_all-append}

module _ {X : Type 0} (p : X → Bool) where
  each_front : (i : ℕ) (xs : List X) → list_all p xs ≡ true → list_all p (take i xs) ≡ true
  each_front zero xs e = refl
  each_front (suc i) [] e = refl
  each_front (suc i) (x ∷ xs) e = and_from _ _ (and_parts _ _ e).0 (each_front i xs (and_parts _ _ e).1)

  each_rest : (i : ℕ) (xs : List X) → list_all p xs ≡ true → list_all p (drop i xs) ≡ true
  each_rest zero xs e = e
  each_rest (suc i) [] e = refl
  each_rest (suc i) (x ∷ xs) e = each_rest i xs (and_parts _ _ e).1

  each_joined : (xs ys : List X) → list_all p xs ≡ true → list_all p ys ≡ true → list_all p (xs ++ ys) ≡ true
  each_joined xs ys e f = list_all-append p xs ys ∙ and_from _ _ e f

  pub each_inserted : (xs : List X) (i : ℕ) (x : X) → list_all p xs ≡ true → p x ≡ true → list_all p (insert xs i x) ≡ true
  each_inserted xs i x e h = each_joined (take i xs) (x ∷ drop i xs) (each_front i xs e) (and_from _ _ h (each_rest i xs e))

  pub each_removed : (xs : List X) (i : ℕ) → list_all p xs ≡ true → list_all p (remove xs i) ≡ true
  each_removed xs i e = each_joined (take i xs) (drop (suc i) xs) (each_front i xs e) (each_rest (suc i) xs e)

  pub each_set : (xs : List X) (i : ℕ) (x : X) → list_all p xs ≡ true → p x ≡ true → list_all p (set xs i x) ≡ true
  each_set [] i x e h = refl
  each_set (y ∷ xs) zero x e h = and_from _ _ h (and_parts _ _ e).1
  each_set (y ∷ xs) (suc i) x e h = and_from _ _ (and_parts _ _ e).0 (each_set xs i x (and_parts _ _ e).1 h)

  -- a weaker test
  pub each_weaker : (q : X → Bool) → ((x : X) → p x ≡ true → q x ≡ true) → (xs : List X) → list_all p xs ≡ true → list_all q xs ≡ true
  each_weaker q h [] e = refl
  each_weaker q h (x ∷ xs) e = and_from _ _ (h x (and_parts _ _ e).0) (each_weaker q h xs (and_parts _ _ e).1)

  -- where no row that passes has a number, none of them has it
  pub none_numbered : (f : X → ℕ) (n : ℕ) → ((x : X) → p x ≡ true → eqb (f x) n ≡ false) → (xs : List X) → list_all p xs ≡ true →
      prefix_len (λ x. not (eqb (f x) n)) xs ≡ length xs
  none_numbered f n h [] e = refl
  none_numbered f n h (x ∷ xs) e =
      rw (h x (and_parts _ _ e).0) (omega (arith, none_numbered f n h xs (and_parts _ _ e).1))

  -- where a row passes another test too, what both tests say holds
  pub one_of_each : (q : X → Bool) (P : Type 0) → ((x : X) → p x ≡ true → q x ≡ true → P) → (xs : List X) → list_all p xs ≡ true → list_any q xs ≡ true → P
  one_of_each q P gives [] e one = absurd (true≢false (sym one))
  one_of_each q P gives (x ∷ xs) e one = elim (q x) as (λ b. q x ≡ b → (b || list_any q xs) ≡ true → P) [
    | true ↦ λ qx _. gives x (and_parts _ _ e).0 qx
    | false ↦ λ _. one_of_each q P gives xs (and_parts _ _ e).1
  ] refl one
