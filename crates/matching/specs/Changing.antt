-- How an order is changed (rules 13).
use Rattle.std.specs.Prelude.{ℕ, ◌-◌, min, Bool, not, ◌||◌, ◌==◌, nat_lt, if◌then◌else◌}
use Rattle.std.specs.Option.{unwrap_or}
use Rattle.orders.specs.declared.side.Side.{Side}
use Rattle.orders.specs.declared.side.Validity.{Validity}
use Rattle.orders.specs.declared.price.Price.{Price}
use Rattle.orders.specs.declared.order.Order.{Order}
use Rattle.orders.specs.Prices.{same_price}
use Rattle.orders.specs.Rows.{row_of, order_of}
use Rattle.orders.specs.Lots.{showing}
use Rattle.matching.specs.declared.amendment.Amendment.{Amendment}
use Rattle.matching.specs.Model.{MatchState, amends, requeues, apply}
use Rattle.matching.specs.Running.{run_to_rest}

-- a blank cell leaves the order's own value (rules 13)

abbrev pub new_price : Amendment → Order → Price
new_price amendment order = unwrap_or amendment.price order.price

abbrev pub new_quantity : Amendment → Order → ℕ
new_quantity amendment order = unwrap_or amendment.quantity order.quantity

abbrev pub new_disclosed : Amendment → Order → ℕ
new_disclosed amendment order = unwrap_or amendment.disclosed order.disclosed

abbrev pub new_validity : Amendment → Order → Validity
new_validity amendment order = unwrap_or amendment.validity order.validity

-- the lots that an order has traded (rules 13)
abbrev pub lots_traded : Order → ℕ
lots_traded order = order.quantity - order.open_lots

-- the new quantity counts the lots already traded (rules 13)
abbrev pub new_open_lots : Amendment → Order → ℕ
new_open_lots amendment order = new_quantity amendment order - lots_traded order

-- another price, a larger quantity or another disclosed costs the turn (rules 13)
abbrev pub loses_turn : Amendment → Order → Bool
loses_turn amendment order =
    not (same_price (new_price amendment order) order.price)
    || (nat_lt order.quantity (new_quantity amendment order)
    || not (new_disclosed amendment order == order.disclosed))

-- number, firm, side, investor and tag stay (rules 13)
abbrev pub changed_order : (turn shown : ℕ) → Amendment → Order → Order
changed_order turn shown amendment order = order_of (record (row_of order) {
  turn = turn;
  client = amendment.client;
  price = new_price amendment order;
  quantity = new_quantity amendment order;
  open_lots = new_open_lots amendment order;
  shown = shown;
  disclosed = new_disclosed amendment order;
  validity = new_validity amendment order;
})

-- an order that keeps its position and turn shows the smaller of its shown and its new open lots
-- (rules 13)
abbrev pub amended_order : Amendment → Order → Order
amended_order amendment order =
    changed_order order.turn (min order.shown (new_open_lots amendment order)) amendment order

-- the lots that it shows where it joins a queue again (rules 3)
abbrev pub shown_anew : Amendment → Order → ℕ
shown_anew amendment order = showing (new_disclosed amendment order) (new_open_lots amendment order)

-- an order that loses its turn draws a new one (rules 13)
abbrev pub requeued_order : ℕ → Amendment → Order → Order
requeued_order stamp amendment order =
    changed_order stamp (shown_anew amendment order) amendment order

-- it leaves its queue and trades as incoming, as an entry does (rules 13)
abbrev pub requeue_and_run : Side → ℕ → Order → MatchState → MatchState
requeue_and_run side at order state = run_to_rest (apply (requeues side at order) state)

-- the order at a position loses its turn, or keeps position and turn (rules 13)
abbrev pub change_at : Amendment → Side → ℕ → Order → MatchState → MatchState
change_at amendment side at order state =
    if loses_turn amendment order
    then requeue_and_run side at (requeued_order state.session.next_stamp amendment order) state
    else apply (amends at (amended_order amendment order)) state
