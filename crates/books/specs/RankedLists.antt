-- Lists in rank order: where a record goes, and what a put and a rewrite leave (rules 4, 5).
use Rattle.std.specs.Prelude.{ℕ, Bool, false, not, List, length, Some, None, Option, ◌==◌, nat_lt, slice_set, if◌then◌else◌}
use Rattle.std.specs.List.{slice_get, prefix_len, insert}
use Rattle.orders.specs.declared.rank.Rank.{Rank}
use Rattle.orders.specs.Ranks.{ranks_ahead, same_rank}

-- the position of the first that a rank is ahead of, or the end (rules 5)
abbrev pub rank_index : {X : Type 0} → (X → Rank) → Rank → List X → ℕ
rank_index rank_of rank xs = prefix_len (λ x. not (ranks_ahead rank (rank_of x))) xs

-- x before the first that ranks behind it, or last (rules 5)
abbrev pub put_by_rank : {X : Type 0} → (X → Rank) → X → List X → List X
put_by_rank rank_of x xs = insert xs (rank_index rank_of (rank_of x) xs) x

-- how many come before the first with a number
abbrev pub before_number : {X : Type 0} → (X → ℕ) → ℕ → List X → ℕ
before_number number_of number xs = prefix_len (λ x. not (number_of x == number)) xs

-- the position of the first with a number (rules 5)
abbrev pub index_of_number : {X : Type 0} → (X → ℕ) → ℕ → List X → Option ℕ
index_of_number number_of number xs =
    let index = before_number number_of number xs in
    if nat_lt index (length xs) then Some index else None

-- whether what is at a position, if anything, has the rank of x
abbrev pub ranks_as : {X : Type 0} → (X → Rank) → X → Option X → Bool
ranks_as rank_of x None = false
ranks_as rank_of x (Some y) = same_rank (rank_of y) (rank_of x)

-- whether x may be swapped for what is at a position: it has the same rank, and with it the same
-- number (rules 5)
abbrev pub swap_allowed : {X : Type 0} → (X → Rank) → (index : ℕ) → X → List X → Bool
swap_allowed rank_of index x xs = ranks_as rank_of x (slice_get xs index)

-- x for what is at a position, where it may be swapped for it (rules 5)
abbrev pub swapped : {X : Type 0} → (X → Rank) → (index : ℕ) → X → List X → List X
swapped rank_of index x xs = if swap_allowed rank_of index x xs then slice_set xs index x else xs
