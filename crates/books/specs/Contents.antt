-- What a queue store means.
use Rattle.std.specs.Prelude.{ℕ, ◌≤◌, List, length, map}
use Rattle.books.specs.declared.book.TheConstants.{MOST_RECORDS}

-- rows in rank order, with a capacity that their count does not pass (rules 5)
pub record Contents (Row : Type 0) : Type 0 where
  pub rows : List Row
  pub capacity : ℕ
  pub count_within : length rows ≤ capacity
  pub capacity_within : capacity ≤ MOST_RECORDS

-- the items that the rows of a store are read as: orders, or stops
abbrev pub stored_items : {Store Row Item : Type 0} →
    (Row → Item) → (Store → Contents Row) → Store → List Item
stored_items item contents store = map item (contents store).rows
