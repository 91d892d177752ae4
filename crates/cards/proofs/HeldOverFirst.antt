-- A list with a held record in place of its first one: what each call finds in it.
use Rattle.std.specs.Prelude.{◌≡◌, ℕ, zero, suc, Bool, true, false, cond, ◌||◌, List, [], ◌∷◌, Some, None, Option, slice_set, refl}
use Rattle.std.proofs.Common.{ap, sym, ◌∙◌, arith}
use Rattle.std.specs.List.{remove, slice_get, list_any}
use Rattle.std.proofs.lemmas.Bool.Decides.{nat_tests}
use Rattle.std.proofs.lemmas.Bool.{cond-true, false≢true}
use Rattle.orders.specs.declared.rank.Rank.{Rank}
use Rattle.orders.specs.Ranks.{same_rank}
use Rattle.books.specs.RankedLists.{index_of_number, swap_allowed}
use Rattle.cards.specs.Held.{over, over_first, one_is}

pub rank_same : (a b : Rank) → same_rank a b ≡ true → a ≡ b
rank_same a b e =
    let k : a.key ≡ b.key = grind (arith, nat_tests) in
    let t : a.turn ≡ b.turn = grind (arith, nat_tests) in
    let n : a.number ≡ b.number = grind (arith, nat_tests) in
    λ i. record { key = k i; turn = t i; number = n i }

module _ {X : Type 0} (f : X → Rank) where
  -- either way of a test on the first record
  ways : (h x : X) (xs : List X) (P : List X → Type 0) → (f x ≡ f h → P (h ∷ xs)) → P (x ∷ xs) → P (over f (Some h) (x ∷ xs))
  ways h x xs P t e = go (same_rank (f x) (f h)) refl
    where
      go : (b : Bool) → same_rank (f x) (f h) ≡ b → P (cond b (h ∷ xs) (x ∷ xs))
      go true w = t (rank_same (f x) (f h) w)
      go false w = e

  pub over_later : (h : Option X) (xs : List X) (i : ℕ) → slice_get (over f h xs) (suc i) ≡ slice_get xs (suc i)
  over_later None xs i = refl
  over_later (Some h) [] i = refl
  over_later (Some h) (x ∷ xs) i = ways h x xs (λ l. slice_get l (suc i) ≡ slice_get xs i) (λ _. refl) refl

  pub over_number : (n : X → ℕ) → ((x : X) → n x ≡ (f x).number) → (k : ℕ) (h : Option X) (xs : List X) → index_of_number n k (over f h xs) ≡ index_of_number n k xs
  over_number n r k None xs = refl
  over_number n r k (Some h) [] = refl
  over_number n r k (Some h) (x ∷ xs) = ways h x xs (λ l. index_of_number n k l ≡ index_of_number n k (x ∷ xs)) (λ e. let t : n h ≡ n x = r h ∙ ap (λ (z : Rank). z.number) (sym e) ∙ sym (r x) in rw t refl) refl

  pub over_any : (p : X → Bool) (h : Option X) (xs : List X) → list_any p (over f h xs) ≡ true → (one_is p h || list_any p xs) ≡ true
  over_any p None xs e = e
  over_any p (Some h) [] e = absurd (false≢true e)
  over_any p (Some h) (x ∷ xs) e = ways h x xs (λ l. list_any p l ≡ true → (p h || (p x || list_any p xs)) ≡ true)
      (λ _. held_one (p h) (p x) (list_any p xs)) (λ t. held_none (p h) (p x || list_any p xs) t) e
    where
      held_one : (a b c : Bool) → (a || c) ≡ true → (a || (b || c)) ≡ true
      held_one true b c e = refl
      held_one false true c e = refl
      held_one false false c e = e

      held_none : (a b : Bool) → b ≡ true → (a || b) ≡ true
      held_none true b e = refl
      held_none false b e = e

  pub over_is : (h : Option X) (xs : List X) → slice_get (over f h xs) 0 ≡ over_first f h (slice_get xs 0)
  over_is None xs = refl
  over_is (Some h) [] = refl
  over_is (Some h) (x ∷ xs) = go (same_rank (f x) (f h))
    where
      go : (b : Bool) → slice_get (cond b (h ∷ xs) (x ∷ xs)) 0 ≡ cond b (Some h) (Some x)
      go true = refl
      go false = refl

  pub over_allowed : (h : Option X) (xs : List X) (i : ℕ) (y : X) → swap_allowed f i y (over f h xs) ≡ swap_allowed f i y xs
  over_allowed None xs i y = refl
  over_allowed (Some h) [] i y = refl
  over_allowed (Some h) (x ∷ xs) zero y = ways h x xs (λ l. swap_allowed f 0 y l ≡ same_rank (f x) (f y)) (λ e. ap (λ z. same_rank z (f y)) (sym e)) refl
  over_allowed (Some h) (x ∷ xs) (suc i) y = ways h x xs (λ l. swap_allowed f (suc i) y l ≡ swap_allowed f i y xs) (λ _. refl) refl

  pub over_held : (h : Option X) (xs : List X) (y : X) → swap_allowed f 0 y xs ≡ true → over f (Some y) xs ≡ slice_set (over f h xs) 0 y
  over_held None xs y e = cond-true _ _ _ e
  over_held (Some h) [] y e = absurd (false≢true e)
  over_held (Some h) (x ∷ xs) y e = ways h x xs (λ l. over f (Some y) (x ∷ xs) ≡ slice_set l 0 y) (λ _. cond-true _ _ _ e) (cond-true _ _ _ e)

  pub over_set : (h : Option X) (xs : List X) (i : ℕ) (y : X) → over f h (slice_set xs (suc i) y) ≡ slice_set (over f h xs) (suc i) y
  over_set None xs i y = refl
  over_set (Some h) [] i y = refl
  over_set (Some h) (x ∷ xs) i y = go (same_rank (f x) (f h))
    where
      go : (b : Bool) → cond b (h ∷ slice_set xs i y) (x ∷ slice_set xs i y) ≡ slice_set (cond b (h ∷ xs) (x ∷ xs)) (suc i) y
      go true = refl
      go false = refl

  pub over_removed : (h : Option X) (xs : List X) (i : ℕ) → over f h (remove xs (suc i)) ≡ remove (over f h xs) (suc i)
  over_removed None xs i = refl
  over_removed (Some h) [] i = refl
  over_removed (Some h) (x ∷ xs) i = go (same_rank (f x) (f h))
    where
      go : (b : Bool) → cond b (h ∷ remove xs i) (x ∷ remove xs i) ≡ remove (cond b (h ∷ xs) (x ∷ xs)) (suc i)
      go true = refl
      go false = refl

  pub over_first_removed : (h : Option X) (xs : List X) → remove (over f h xs) 0 ≡ remove xs 0
  over_first_removed None xs = refl
  over_first_removed (Some h) [] = refl
  over_first_removed (Some h) (x ∷ xs) = ways h x xs (λ l. remove l 0 ≡ xs) (λ _. refl) refl
