-- The capacity of a queue as published (rules 5).
-- Definitions cite the constants of the code; these are their values.
use Rattle.std.specs.Prelude.{◌≡◌}
use Rattle.books.specs.declared.book.TheConstants.{MOST_RECORDS}

pub record BookLimits : Type 0 where
  pub most_records : MOST_RECORDS ≡ 1000000
