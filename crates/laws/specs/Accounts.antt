-- Every lot is accounted for: it was traded, is open, or was cancelled (rules 18).
--   quantity_of      the quantity of an order, as entered or as last replaced
--   traded_lots      its lots on a trade line, as the incoming order or as the resting one
--   cancelled_lots   its lots on a cancel line
--   open_of          its open lots, where it stands or waits
use Rattle.std.specs.Prelude.{◌≡◌, ℕ, ◌+◌, if◌then◌else◌, List, [], ◌∷◌, ◌==◌}
use Rattle.orders.specs.declared.order.Order.{Order}
use Rattle.orders.specs.declared.order.Stop.{Stop}
use Rattle.books.specs.Model.{Queues}
use Rattle.tapes.specs.declared.line.Line.{Line}
use Rattle.tapes.specs.declared.line.Line.TheVariants.{Accepted, Replaced, Traded, Cancelled}
use Rattle.matching.specs.Running.{total}

-- lots that count for an order where they are of that order
abbrev pub counting : (number of_number lots : ℕ) → ℕ
counting number of_number lots = if of_number == number then lots else 0

-- the quantity on the latest line that enters or replaces the order, or 0 (rules 16)
abbrev pub quantity_of : ℕ → List Line → ℕ
quantity_of number [] = 0
quantity_of number (Accepted accepted limit quantity ∷ earlier) =
    if accepted == number then quantity else quantity_of number earlier
quantity_of number (Replaced replaced limit quantity ∷ earlier) =
    if replaced == number then quantity else quantity_of number earlier
quantity_of number (_ ∷ earlier) = quantity_of number earlier

-- the lots of an order on a line (rules 16)

abbrev pub traded_lots : ℕ → Line → ℕ
traded_lots number (Traded incoming resting price lots) =
    counting number incoming lots + counting number resting lots
traded_lots number _ = 0

abbrev pub cancelled_lots : ℕ → Line → ℕ
cancelled_lots number (Cancelled cancelled limit lots cause) = counting number cancelled lots
cancelled_lots number _ = 0

abbrev pub open_of : ℕ → Order → ℕ
open_of number order = counting number order.number order.open_lots

-- the open lots of a number in the book
abbrev pub open_in_book : ℕ → Queues → ℕ
open_in_book number queues =
    total (open_of number) queues.stands.buy + total (open_of number) queues.stands.sell
    + (total (λ (stop : Stop). open_of number stop.order) queues.waits.buy
    + total (λ (stop : Stop). open_of number stop.order) queues.waits.sell)

-- of the lines of a tape, the latest first, and of the queues at the same time, for every number
abbrev pub Balanced : List Line → Queues → Type 0
Balanced lines queues = (number : ℕ) →
    quantity_of number lines
    ≡ total (traded_lots number) lines
    + open_in_book number queues
    + total (cancelled_lots number) lines
