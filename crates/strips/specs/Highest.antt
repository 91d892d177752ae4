-- The highest numbers of the rows of a strip: no row has a number or a client number above them.
use Rattle.std.specs.Prelude.{ℕ, ◌%◌, Bool, ◌&&◌, List, nat_le, slice_index}
use Rattle.std.specs.List.{list_all}
use Rattle.strips.specs.declared.highest.HighestNumbers.{HighestNumbers}
use Rattle.strips.specs.declared.highest.TheConstants.{CLASSES}

-- a row's number is not above the highest, nor its client number above the highest of its firm's
-- class
abbrev pub not_above : {X : Type 0} →
    (number_of firm_of client_of : X → ℕ) → HighestNumbers → X → Bool
not_above number_of firm_of client_of highest row =
    nat_le (number_of row) highest.number
    && nat_le (client_of row) (slice_index highest.clients (firm_of row % CLASSES))

-- that holds for each row
abbrev pub all_not_above : {X : Type 0} →
    (number_of firm_of client_of : X → ℕ) → HighestNumbers → List X → Bool
all_not_above number_of firm_of client_of highest rows =
    list_all (not_above number_of firm_of client_of highest) rows
