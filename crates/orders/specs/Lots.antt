-- Lots shown, lots taken off, and at what price an order may trade (rules 1, 3, 10).
use Rattle.std.specs.Prelude.{ℕ, ◌-◌, min, Bool, not, ◌&&◌, ◌==◌, nat_le, if◌then◌else◌}
use Rattle.orders.specs.declared.side.Side.{Side}
use Rattle.orders.specs.declared.side.Side.TheVariants.{Buy, Sell}
use Rattle.orders.specs.declared.price.Price.{Price}
use Rattle.orders.specs.declared.order.Order.{Order}
use Rattle.orders.specs.declared.row.OrderRow.{OrderRow}
use Rattle.orders.specs.Prices.{level}
use Rattle.orders.specs.Rows.{row_of, order_of}

-- what an order shows of so many open lots: the smaller of the two, or all where nothing is
-- disclosed (rules 3)
abbrev pub showing : (disclosed lots : ℕ) → ℕ
showing disclosed lots = if disclosed == 0 then lots else min disclosed lots

-- the row of an order under a turn, with other open and shown lots
abbrev pub with_lots : (turn open_lots shown : ℕ) → Order → OrderRow
with_lots turn open_lots shown order =
    record (row_of order) { turn = turn; open_lots = open_lots; shown = shown }

-- lots taken off the open and off the shown lots (rules 10)
abbrev pub order_reduced : (lots : ℕ) → Order → Order
order_reduced lots order =
    order_of (with_lots order.turn (order.open_lots - lots) (order.shown - lots) order)

-- a refill: lots taken off the open lots, and the rest shown anew under a turn (rules 10)
abbrev pub order_refilled : (turn lots : ℕ) → Order → Order
order_refilled turn lots order =
    let left = order.open_lots - lots in
    order_of (with_lots turn left (showing order.disclosed left) order)

-- whether an order of this side and limit may trade at the price (rules 1)
abbrev pub within_limit : Side → (limit price : Price) → Bool
within_limit Buy limit price = nat_le (level price) (level limit)
within_limit Sell limit price = nat_le (level limit) (level price)

-- whether both orders have one investor, and not none (rules 9, 10)
abbrev pub same_investor : Order → Order → Bool
same_investor order other = not (order.investor == 0) && order.investor == other.investor
