-- Reach: how many lots an incoming order could trade at once (rules 9).
use Rattle.std.specs.Prelude.{ℕ, ◌+◌, ◌*◌, Bool, ◌&&◌, List, [], ◌∷◌, Some, None, Option, nat_lt, if◌then◌else◌}
use Rattle.orders.specs.declared.side.Side.{Side}
use Rattle.orders.specs.declared.side.Side.TheVariants.{Buy, Sell}
use Rattle.orders.specs.declared.price.Price.{Price}
use Rattle.orders.specs.declared.order.Order.{Order}
use Rattle.orders.specs.declared.order.TheConstants.{MOST_LOTS}
use Rattle.orders.specs.Prices.{level, same_price}
use Rattle.orders.specs.Sides.{opposite}
use Rattle.orders.specs.Lots.{within_limit, same_investor}
use Rattle.books.specs.declared.book.TheConstants.{MOST_RECORDS}
use Rattle.books.specs.Model.{Queues, at}

-- the first price ranks before the second among orders of this side (rules 4)
abbrev pub better : Side → Price → Price → Bool
better Buy p q = nat_lt (level q) (level p)
better Sell p q = nat_lt (level p) (level q)

-- the resting order is within the incoming order's limit and of the same investor (rules 9)
abbrev pub own : Order → Order → Bool
own incoming resting =
    same_investor incoming resting && within_limit incoming.side incoming.price resting.price

-- the price of the first order in rank that is own (rules 9)
abbrev pub own_price : Order → List Order → Option Price
own_price incoming [] = None
own_price incoming (resting ∷ rest) =
    if own incoming resting then Some resting.price else own_price incoming rest

-- whether all open lots of a resting order count: it is within the limit, or at a better price than
-- the own one (rules 9)
abbrev pub counts : Order → Option Price → Order → Bool
counts incoming None resting = within_limit incoming.side incoming.price resting.price
counts incoming (Some p) resting = better (opposite incoming.side) resting.price p

abbrev pub counted_open_lots : Order → Option Price → List Order → ℕ
counted_open_lots incoming p [] = 0
counted_open_lots incoming p (resting ∷ rest) =
    (if counts incoming p resting then resting.open_lots else 0) + counted_open_lots incoming p rest

-- the shown lots at a price ahead of the first own order (rules 9)
abbrev pub shown_ahead : Order → Price → List Order → ℕ
shown_ahead incoming p [] = 0
shown_ahead incoming p (resting ∷ rest) =
    if own incoming resting
    then 0
    else (if same_price resting.price p then resting.shown else 0) + shown_ahead incoming p rest

abbrev pub reach_by : Option Price → Order → List Order → ℕ
reach_by None incoming orders = counted_open_lots incoming None orders
reach_by (Some p) incoming orders =
    counted_open_lots incoming (Some p) orders + shown_ahead incoming p orders

-- the reach of an incoming order among the opposite orders (rules 9)
abbrev pub reach : Order → List Order → ℕ
reach incoming orders = reach_by (own_price incoming orders) incoming orders

-- the orders that stand opposite an incoming one, in rank order (rules 4, 9)
abbrev pub opposite_orders : Order → Queues → List Order
opposite_orders incoming queues = at (opposite incoming.side) queues.stands

-- no reach is larger: as many orders as a queue can hold, of as many lots as an order can have
-- (rules 3, 5)
abbrev pub most_open_lots : ℕ
most_open_lots = MOST_RECORDS * MOST_LOTS
