-- Lists read through a function: what is done to stored rows is done to the items that they are read as.
use Rattle.std.proofs.Common.{◌≡◌, ℕ, suc, ◌+◌, Bool, true, false, cond, not, eqb, List, [], ◌∷◌, map, take, drop, Option, Some, None, refl, ap, ◌∙◌}
use Rattle.std.specs.List.{prefix_len, remove, slice_get, list_any}
use Rattle.std.specs.Option.{option_map}
use Rattle.std.proofs.lemmas.Option.{slice_get-map}
use Rattle.std.proofs.lemmas.List.{map-append, take-map, drop-map, length-map}
use Rattle.orders.specs.declared.rank.Rank.{Rank}
use Rattle.orders.specs.Ranks.{ranks_ahead}
use Rattle.books.specs.RankedLists.{rank_index, put_by_rank, index_of_number, ranks_as, swap_allowed}

pub leading_map : {X Y : Type 0} (f : X → Y) (p : X → Bool) (q : Y → Bool) → ((x : X) → q (f x) ≡ p x) → (xs : List X) → prefix_len q (map f xs) ≡ prefix_len p xs
leading_map f p q h [] = refl
leading_map f p q h (x ∷ xs) = rw (h x) (ap (λ n. cond (p x) (1 + n) 0) (leading_map f p q h xs))

pub put_in_map : {X Y : Type 0} (f : X → Y) (a : X → Rank) (b : Y → Rank) → ((x : X) → b (f x) ≡ a x) → (x : X) (xs : List X) →
    map f (put_by_rank a x xs) ≡ put_by_rank b (f x) (map f xs)
put_in_map f a b h x xs =
    let n : ℕ = rank_index a (a x) xs in
    let e : rank_index b (b (f x)) (map f xs) ≡ n = rw (h x) (leading_map f (λ y. not (ranks_ahead (a x) (a y))) (λ y. not (ranks_ahead (a x) (b y))) (λ y. ap (λ k. not (ranks_ahead (a x) k)) (h y)) xs) in
    map-append f (take n xs) (x ∷ drop n xs) ∙ rw e (rw (take-map, drop-map) refl)

pub removed_map : {X Y : Type 0} (f : X → Y) (xs : List X) (i : ℕ) → map f (remove xs i) ≡ remove (map f xs) i
removed_map f xs i = map-append f (take i xs) (drop (suc i) xs) ∙ rw (take-map, drop-map) refl

pub first_number_map : {X Y : Type 0} (f : X → Y) (m : X → ℕ) (n : Y → ℕ) → ((x : X) → n (f x) ≡ m x) → (k : ℕ) (xs : List X) →
    index_of_number n k (map f xs) ≡ index_of_number m k xs
first_number_map f m n h k xs = rw (leading_map f (λ x. not (eqb (m x) k)) (λ y. not (eqb (n y) k)) (λ x. ap (λ z. not (eqb z k)) (h x)) xs, length-map) refl

-- what a put of a row leaves of the items
pub put_mapped : {X Y : Type 0} (f : X → Y) (a : X → Rank) (b : Y → Rank) → ((x : X) → b (f x) ≡ a x) →
    (t : Bool) (x : X) (y : Y) (xs ys : List X) → f x ≡ y → ys ≡ cond t (put_by_rank a x xs) xs →
    map f ys ≡ cond t (put_by_rank b y (map f xs)) (map f xs)
put_mapped f a b h true x y xs ys k e = ap (map f) e ∙ put_in_map f a b h x xs ∙ ap (λ z. put_by_rank b z (map f xs)) k
put_mapped f a b h false x y xs ys k e = ap (map f) e

-- a swap is allowed for a row where it is allowed for its item
pub swap_map : {X Y : Type 0} (f : X → Y) (a : X → Rank) (b : Y → Rank) → ((x : X) → b (f x) ≡ a x) →
    (xs : List X) (i : ℕ) (x : X) (y : Y) → f x ≡ y → swap_allowed a i x xs ≡ swap_allowed b i y (map f xs)
swap_map f a b h xs i x y k = rw (← k, slice_get-map f xs i) (mapped (slice_get xs i))
  where
    mapped : (o : Option _) → ranks_as a x o ≡ ranks_as b (f x) (option_map f o)
    mapped None = refl
    mapped (Some z) = rw (h z, h x) refl

-- whether one of them passes a test
pub any_map : {X Y : Type 0} (f : X → Y) (p : Y → Bool) (xs : List X) → list_any p (map f xs) ≡ list_any (λ x. p (f x)) xs
any_map f p [] = refl
any_map f p (x ∷ xs) = rw (any_map f p xs) refl
