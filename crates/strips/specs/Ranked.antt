-- The rows of a strip by rank (rules 5).
use Rattle.std.specs.Prelude.{ℕ, List, length, min, take, reverse}
use Rattle.books.specs.declared.book.TheConstants.{MOST_RECORDS}

-- the first `count` of a list, and no more than `most`
abbrev pub front : {X : Type 0} → (count most : ℕ) → List X → List X
front count most xs = take count (take most xs)

-- the rows in rank order: what ranks first is at the end of the slice, so that it leaves without
-- the others moving
abbrev pub ranked : {X : Type 0} → (count : ℕ) → List X → List X
ranked count xs = reverse (front count MOST_RECORDS xs)

-- the capacity of a strip: the length of its slice, a million at most (rules 5)
abbrev pub strip_capacity : {X : Type 0} → List X → ℕ
strip_capacity xs = min MOST_RECORDS (length xs)
