-- What a strip means: its rows are the first `count` of its slice, of which a million at most are
-- used (rules 5).
use Rattle.std.specs.Prelude.{ℕ, ◌≤◌, min, List, length}
use Rattle.std.proofs.Common.{arith}
use Rattle.std.proofs.lemmas.List.{length-take, length-reverse}
use Rattle.orders.specs.declared.ranked.Numbered.{Ghosts}
use Rattle.books.specs.declared.book.TheConstants.{MOST_RECORDS}
use Rattle.books.specs.Contents.{Contents}
use Rattle.strips.specs.Ranked.{front, ranked, strip_capacity}
use Rattle.strips.specs.declared.row.RankedRow.{RankedRow}

front_within : {X : Type 0} (count most : ℕ) (xs : List X) →
    length (front count most xs) ≤ min most (length xs)
front_within count most xs = simp length-take (omega arith)

pub ranked_within : {X : Type 0} (count : ℕ) (xs : List X) →
    length (ranked count xs) ≤ strip_capacity xs
ranked_within count xs = rw length-reverse (front_within count MOST_RECORDS xs)

-- the length of its slice
abbrev pub slice_len : {X : Type 0} {n : Ghosts X} → RankedRow X n → ℕ
slice_len strip = length strip.rows.now

-- the rows of a strip in rank order, and its capacity (rules 5)
abbrev pub strip_contents : {X : Type 0} {n : Ghosts X} → RankedRow X n → Contents X
strip_contents strip = record {
  rows = ranked strip.count strip.rows.now;
  capacity = strip_capacity strip.rows.now;
  count_within = ranked_within strip.count strip.rows.now;
  capacity_within = omega arith;
}
