-- The rows of a strip by rank: how many there are, and what a put, a replace and a take leave.
use Rattle.std.proofs.Common.{◌≡◌, ℕ, ◌+◌, ◌-◌, ◌<◌, ◌≤◌, min, List, length, take, set, reverse, sym, refl, ap, ◌∙◌, arith}
use Rattle.std.specs.List.{remove}
use Rattle.std.proofs.lemmas.List.{take-take, take_min, length-take, length-reverse}
use Rattle.orders.specs.declared.rank.Rank.{Rank}
use Rattle.books.specs.RankedLists.{put_by_rank}
use Rattle.books.proofs.RotatedWrites.{set_take, removed_past}
use Rattle.books.specs.declared.book.TheConstants.{MOST_RECORDS}
use Rattle.strips.specs.Ranked.{front, ranked, strip_capacity}
use Rattle.strips.proofs.ReversedLists.{turned_set}

front_length : {X : Type 0} (c m : ℕ) (xs : List X) → length (front c m xs) ≡ min c (min m (length xs))
front_length c m xs = simp length-take refl

-- the used rows are the first ones
front_used : {X : Type 0} (c m : ℕ) (xs : List X) (n : ℕ) → n ≡ min c (min m (length xs)) → front c m xs ≡ take n xs
front_used c m xs n e =
    let l : min c (length (take m xs)) ≡ n = simp length-take (sym e) in
    sym (take_min c (take m xs)) ∙ ap (λ k. take k (take m xs)) l ∙ take-take n m xs (omega arith)

pub ranked_length : {X : Type 0} (c : ℕ) (xs : List X) → length (ranked c xs) ≡ min c (strip_capacity xs)
ranked_length c xs = length-reverse (front c MOST_RECORDS xs) ∙ front_length c MOST_RECORDS xs

pub ranked_used : {X : Type 0} (c : ℕ) (xs : List X) (n : ℕ) → n ≡ min c (strip_capacity xs) → ranked c xs ≡ reverse (take n xs)
ranked_used c xs n e = ap reverse (front_used c MOST_RECORDS xs n e)

-- a count within the largest capacity
pub ranked_few : {X : Type 0} (n : ℕ) (xs : List X) → n ≤ MOST_RECORDS → ranked n xs ≡ reverse (take n xs)
ranked_few n xs h = ap reverse (take-take n MOST_RECORDS xs h)

front_set : {X : Type 0} (c m : ℕ) (xs : List X) (i : ℕ) (y : X) → front c m (set xs i y) ≡ set (front c m xs) i y
front_set c m xs i y = ap (take c) (set_take m xs i y) ∙ set_take c (take m xs) i y

-- another row at a position
pub ranked_set : {X : Type 0} (c : ℕ) (xs : List X) (n i : ℕ) (y : X) → n ≡ length (ranked c xs) → i < n → ranked c (set xs (n - 1 - i) y) ≡ set (ranked c xs) i y
ranked_set c xs n i y e h =
    ap reverse (front_set c MOST_RECORDS xs (n - 1 - i) y)
    ∙ turned_set (front c MOST_RECORDS xs) (n - 1 - i) i y (omega (arith, e, length-reverse (front c MOST_RECORDS xs)))

-- one row more, and one less
module _ {X : Type 0} (c : ℕ) (xs : List X) (n : ℕ) where
  pub put_leaves : (f : X → Rank) (ys : List X) (x : X) → n < MOST_RECORDS → ranked c xs ≡ reverse (take n xs) →
      reverse (take (n + 1) ys) ≡ put_by_rank f x (reverse (take n xs)) → ranked (n + 1) ys ≡ put_by_rank f x (ranked c xs)
  put_leaves f ys x h is t = ranked_few (n + 1) ys (omega arith) ∙ t ∙ ap (put_by_rank f x) (sym is)

  pub take_leaves : n ≡ length (ranked c xs) → ranked c xs ≡ reverse (take n xs) → (i : ℕ) (ys : List X) →
      reverse (take (n - 1) ys) ≡ remove (reverse (take n xs)) i → ranked (n - 1) ys ≡ remove (ranked c xs) i
  take_leaves used is i ys t =
      let w : n ≤ MOST_RECORDS = omega (arith, used, ranked_length c xs) in
      ranked_few (n - 1) ys (omega arith) ∙ t ∙ ap (λ (l : List X). remove l i) (sym is)

  pub take_past : n ≡ length (ranked c xs) → (i : ℕ) → n ≤ i → ranked c xs ≡ remove (ranked c xs) i
  take_past used i h = removed_past (ranked c xs) i (omega arith)
