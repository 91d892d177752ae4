-- What a cell reads as, and when it is out of range.
--   cell   one value of a form, or blank (rules 1)
--   blank  a cell without a value (rules 1)
use Rattle.std.specs.Prelude.{ℕ, ◌&&◌, Some, None, Ok, Err, Option, Result, ◌==◌, nat_le, if◌then◌else◌}
use Rattle.orders.specs.declared.side.Side.{Side}
use Rattle.orders.specs.declared.side.Validity.{Validity}
use Rattle.orders.specs.Sides.{side_of, validity_of}
use Rattle.orders.specs.declared.price.Price.{Price}
use Rattle.orders.specs.declared.order.TheConstants.{MOST_LOTS}
use Rattle.orders.specs.Prices.{in_price_range}
use Rattle.forms.specs.Results.{and_then}
use Rattle.forms.specs.declared.refusal.Refusal.{Refusal}
use Rattle.forms.specs.declared.refusal.Refusal.TheVariants.{WrongBlank, OutOfRange}
use Rattle.validation.specs.declared.cells.TypeCode.{TypeCode}
use Rattle.validation.specs.declared.cells.TypeCode.TheVariants.{Limit, StopLimit, Market}
use Rattle.validation.specs.declared.cells.TheConstants.{HIGHEST_FIRM, HIGHEST_DAY, HIGHEST_IDENTIFIER, HIGHEST_INVESTOR, HIGHEST_TAG}

-- a cell that is blank or filled against the rules is refused before anything else (numbers 5)
abbrev pub blanks_first : {A : Type 0} → Option ℕ → Result A Refusal → Result A Refusal
blanks_first None answer = answer
blanks_first (Some cell) answer = Err (WrongBlank cell)

-- a value, or the cell is out of range (numbers 3)
abbrev pub in_range : {A : Type 0} → ℕ → Option A → Result A Refusal
in_range at None = Err (OutOfRange at)
in_range at (Some value) = Ok value

-- a cell that may be blank is checked where it is filled
abbrev pub if_filled : {A B : Type 0} →
    (A → Result B Refusal) → Option A → Result (Option B) Refusal
if_filled check None = Ok None
if_filled check (Some value) = and_then (check value) (λ checked. Ok (Some checked))

-- a number from low to high, or the cell is out of range (numbers 3)
abbrev pub number_in : (low high at : ℕ) → ℕ → Result ℕ Refusal
number_in low high at value =
    if nat_le low value && nat_le value high then Ok value else Err (OutOfRange at)

-- the ranges of the number cells (sheets 5)

abbrev pub firm_in : ℕ → ℕ → Result ℕ Refusal
firm_in at value = number_in 1 HIGHEST_FIRM at value

abbrev pub day_in : ℕ → ℕ → Result ℕ Refusal
day_in at value = number_in 1 HIGHEST_DAY at value

-- a client number or an order number
abbrev pub identifier_in : ℕ → ℕ → Result ℕ Refusal
identifier_in at value = number_in 1 HIGHEST_IDENTIFIER at value

abbrev pub lots_in : ℕ → ℕ → ℕ → Result ℕ Refusal
lots_in low at value = number_in low MOST_LOTS at value

abbrev pub investor_in : ℕ → ℕ → Result ℕ Refusal
investor_in at value = number_in 0 HIGHEST_INVESTOR at value

abbrev pub tag_in : ℕ → ℕ → Result ℕ Refusal
tag_in at value = number_in 0 HIGHEST_TAG at value

abbrev pub side_in : ℕ → ℕ → Result Side Refusal
side_in at value = in_range at (side_of value)

abbrev pub validity_in : ℕ → ℕ → Result Validity Refusal
validity_in at value = in_range at (validity_of value)

-- the type that the byte 2, 4 or K stands for (rules 1)
abbrev pub type_of : ℕ → Option TypeCode
type_of byte =
    if byte == 50 then Some Limit
    else if byte == 52 then Some StopLimit
    else if byte == 75 then Some Market
    else None

abbrev pub price_in : ℕ → Price → Result Price Refusal
price_in at price = if in_price_range price then Ok price else Err (OutOfRange at)
