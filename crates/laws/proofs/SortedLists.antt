-- Lists in rank order: what a take, a put and a rewrite leave of sums, of what holds of each, and of the order.
use Rattle.std.proofs.Common.{◌≡◌, ℕ, zero, suc, ◌+◌, Bool, true, false, cond, not, eqb, ltb, List, [], ◌∷◌, length, set, Some, None, Option, sym, refl, ap, ◌∙◌, subst, arith}
use Rattle.std.specs.List.{remove, insert, AllByRecursion, slice_get}
use Rattle.std.proofs.lemmas.Bool.{cond_both, both_ways, cond-false, le-ltb}
use Rattle.std.proofs.ByRecursion.{All-weaker}
use Rattle.std.proofs.lemmas.Bool.Decides.{nat_tests}
use Rattle.orders.specs.declared.rank.Rank.{Rank}
use Rattle.orders.specs.Ranks.{ranks_ahead}
use Rattle.orders.specs.RanksLemmas.{ranks_ahead_transitive}
use Rattle.books.specs.RankedLists.{put_by_rank, rank_index, before_number, index_of_number}
use Rattle.matching.specs.Running.{total}

-- no later one ranks ahead
abbrev pub Sorted : {X : Type 0} → (X → Rank) → List X → Type 0
Sorted f [] = Unit {0}
Sorted f (x ∷ l) = AllByRecursion (λ y. ranks_ahead (f y) (f x) ≡ false) l × Sorted f l

none_is_some : {A : Type 0} {X : Type 0} (x : X) → ◌≡◌ {A = Option X} None (Some x) → A
none_is_some x e = let z : ◌≡◌ {A = ℕ} 0 1 = cc in absurd (omega arith)

-- what is taken

pub total_removed : {X : Type 0} (f : X → ℕ) (l : List X) (i : ℕ) (x : X) → slice_get l i ≡ Some x → total f (remove l i) + f x ≡ total f l
total_removed f [] i x e = none_is_some x e
total_removed f (y ∷ l) zero x e = let z : y ≡ x = cc in let k : f y ≡ f x = ap f z in omega arith
total_removed f (y ∷ l) (suc i) x e = let ih = total_removed f l i x e in omega arith

pub length_removed : {X : Type 0} (l : List X) (i : ℕ) (x : X) → slice_get l i ≡ Some x → suc (length (remove l i)) ≡ length l
length_removed [] i x e = none_is_some x e
length_removed (y ∷ l) zero x e = refl
length_removed (y ∷ l) (suc i) x e = ap suc (length_removed l i x e)

pub all_removed : {X : Type 0} (P : X → Type 0) (l : List X) (i : ℕ) → AllByRecursion P l → AllByRecursion P (remove l i)
all_removed P [] zero h = h
all_removed P [] (suc i) h = h
all_removed P (y ∷ l) zero h = h.1
all_removed P (y ∷ l) (suc i) h = (h.0, all_removed P l i h.1)

pub all_nth : {X : Type 0} (P : X → Type 0) (l : List X) (i : ℕ) (x : X) → slice_get l i ≡ Some x → AllByRecursion P l → P x
all_nth P [] i x e h = none_is_some x e
all_nth P (y ∷ l) zero x e h = let z : y ≡ x = cc in subst P z h.0
all_nth P (y ∷ l) (suc i) x e h = all_nth P l i x e h.1

pub sorted_removed : {X : Type 0} (f : X → Rank) (l : List X) (i : ℕ) → Sorted f l → Sorted f (remove l i)
sorted_removed f [] zero h = h
sorted_removed f [] (suc i) h = h
sorted_removed f (y ∷ l) zero h = h.1
sorted_removed f (y ∷ l) (suc i) h = (all_removed (λ z. ranks_ahead (f z) (f y) ≡ false) l i h.0, sorted_removed f l i h.1)

-- what is put

pub put_in_cons : {X : Type 0} (f : X → Rank) (x y : X) (l : List X) → put_by_rank f x (y ∷ l) ≡ cond (ranks_ahead (f x) (f y)) (x ∷ y ∷ l) (y ∷ put_by_rank f x l)
put_in_cons {X} f x y l = go (ranks_ahead (f x) (f y))
  where
    go : (b : Bool) → insert (y ∷ l) (cond (not b) (1 + rank_index f (f x) l) 0) x ≡ cond b (x ∷ y ∷ l) (y ∷ put_by_rank f x l)
    go true = refl
    go false = let e : 1 + rank_index f (f x) l ≡ suc (rank_index f (f x) l) = omega arith in ap (λ n. insert (y ∷ l) n x) e

pub total_put_in : {X : Type 0} (f : X → Rank) (g : X → ℕ) (x : X) (l : List X) → total g (put_by_rank f x l) ≡ g x + total g l
total_put_in f g x [] = refl
total_put_in f g x (y ∷ l) =
    let ih = total_put_in f g x l in
    rw (put_in_cons f x y l) (cond_both (ranks_ahead (f x) (f y)) (x ∷ y ∷ l) (y ∷ put_by_rank f x l) (λ z. total g z ≡ g x + (g y + total g l)) (λ _. refl) (λ _. omega arith))

pub length_put_in : {X : Type 0} (f : X → Rank) (x : X) (l : List X) → length (put_by_rank f x l) ≡ suc (length l)
length_put_in f x [] = refl
length_put_in f x (y ∷ l) =
    let ih = length_put_in f x l in
    rw (put_in_cons f x y l) (cond_both (ranks_ahead (f x) (f y)) (x ∷ y ∷ l) (y ∷ put_by_rank f x l) (λ z. length z ≡ suc (suc (length l))) (λ _. refl) (λ _. ap suc ih))

pub all_put_in : {X : Type 0} (f : X → Rank) (P : X → Type 0) (x : X) (l : List X) → P x → AllByRecursion P l → AllByRecursion P (put_by_rank f x l)
all_put_in f P x [] p h = (p, tt)
all_put_in f P x (y ∷ l) p h =
    subst (AllByRecursion P) (sym (put_in_cons f x y l)) (cond_both (ranks_ahead (f x) (f y)) (x ∷ y ∷ l) (y ∷ put_by_rank f x l) (AllByRecursion P) (λ _. (p, h)) (λ _. (h.0, all_put_in f P x l p h.1)))

ahead_one_way : (a b : Rank) → ranks_ahead a b ≡ true → ranks_ahead b a ≡ false
ahead_one_way a b h = grind (arith, nat_tests)

pub not_ahead_of_itself : (a : Rank) → ranks_ahead a a ≡ false
not_ahead_of_itself a = grind (arith, nat_tests)

-- what does not rank ahead of b does not rank ahead of what is ahead of b
not_ahead_behind : (a b c : Rank) → ranks_ahead a b ≡ true → ranks_ahead c b ≡ false → ranks_ahead c a ≡ false
not_ahead_behind a b c e h = go (ranks_ahead c a) refl
  where
    go : (t : Bool) → ranks_ahead c a ≡ t → t ≡ false
    go false _ = refl
    go true k = absurd (both_ways (ranks_ahead c b) h (ranks_ahead_transitive c a b k e))

pub sorted_put_in : {X : Type 0} (f : X → Rank) (x : X) (l : List X) → Sorted f l → Sorted f (put_by_rank f x l)
sorted_put_in f x [] h = (tt, tt)
sorted_put_in f x (y ∷ l) h =
    subst (Sorted f) (sym (put_in_cons f x y l)) (cond_both (ranks_ahead (f x) (f y)) (x ∷ y ∷ l) (y ∷ put_by_rank f x l) (Sorted f)
    (λ e. ((ahead_one_way (f x) (f y) e, All-weaker (λ z. ranks_ahead (f z) (f y) ≡ false) (λ z. ranks_ahead (f z) (f x) ≡ false) (λ z k. not_ahead_behind (f x) (f y) (f z) e k) l h.0), h))
    (λ e. (all_put_in f (λ z. ranks_ahead (f z) (f y) ≡ false) x l e h.0, sorted_put_in f x l h.1)))

-- what is rewritten

pub total_set : {X : Type 0} (f : X → ℕ) (l : List X) (i : ℕ) (x y : X) → slice_get l i ≡ Some x → total f (set l i y) ≡ f y + total f (remove l i)
total_set f [] i x y e = none_is_some x e
total_set f (z ∷ l) zero x y e = refl
total_set f (z ∷ l) (suc i) x y e = let ih = total_set f l i x y e in omega arith

pub all_rewritten : {X : Type 0} (P : X → Type 0) (l : List X) (i : ℕ) (y : X) → P y → AllByRecursion P l → AllByRecursion P (set l i y)
all_rewritten P [] i y p h = h
all_rewritten P (z ∷ l) zero y p h = (p, h.1)
all_rewritten P (z ∷ l) (suc i) y p h = (h.0, all_rewritten P l i y p h.1)

pub sorted_set : {X : Type 0} (f : X → Rank) (l : List X) (i : ℕ) (x y : X) → slice_get l i ≡ Some x → f y ≡ f x → Sorted f l → Sorted f (set l i y)
sorted_set f [] i x y e k h = h
sorted_set f (z ∷ l) zero x y e k h = let w : f z ≡ f y = ap f (let u : z ≡ x = cc in u) ∙ sym k in (subst (λ r. AllByRecursion (λ y. ranks_ahead (f y) r ≡ false) l) w h.0, h.1)
sorted_set f (z ∷ l) (suc i) x y e k h = (
  all_rewritten (λ v. ranks_ahead (f v) (f z) ≡ false) l i y (subst (λ r. ranks_ahead r (f z) ≡ false) (sym k)
      (all_nth (λ v. ranks_ahead (f v) (f z) ≡ false) l i x e h.0)) h.0,
  sorted_set f l i x y e k h.1,
)

-- a number that none has is not found

unnumbered : {X : Type 0} (f : X → ℕ) (n : ℕ) (l : List X) → total (λ x. cond (eqb (f x) n) 1 0) l ≡ 0 → before_number f n l ≡ length l
unnumbered f n [] e = refl
unnumbered f n (x ∷ l) e = go (eqb (f x) n) (unnumbered f n l) e
  where
    go : (b : Bool) → (total (λ x. cond (eqb (f x) n) 1 0) l ≡ 0 → before_number f n l ≡ length l) → cond b 1 0 + total (λ x. cond (eqb (f x) n) 1 0) l ≡ 0 →
        cond (not b) (1 + before_number f n l) 0 ≡ suc (length l)
    go true ih z = absurd (omega arith)
    go false ih z = omega (arith, ih (omega arith))

pub not_found : {X : Type 0} (f : X → ℕ) (n : ℕ) (l : List X) → total (λ x. cond (eqb (f x) n) 1 0) l ≡ 0 → index_of_number f n l ≡ None
not_found f n l e = cond-false (ltb (before_number f n l) (length l)) (Some (before_number f n l)) None (le-ltb (before_number f n l) (length l) (omega (arith, unnumbered f n l e)))

-- the first of a list

pub nth_first : {X : Type 0} (l : List X) (x : X) → slice_get l 0 ≡ Some x → (rest : List X) × (l ≡ x ∷ rest)
nth_first [] x e = none_is_some x e
nth_first (y ∷ l) x e = (l, ap (λ z. z ∷ l) (let u : y ≡ x = cc in u))
