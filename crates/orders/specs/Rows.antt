-- How an order is stored as a plain row, and how a row reads (rules 3, plain rows).
use Rattle.std.specs.Prelude.{◌≡◌, Bool, true, false, refl, if◌then◌else◌}
use Rattle.std.proofs.Common.{arith}
use Rattle.orders.specs.declared.order.Order.{Order}
use Rattle.orders.specs.declared.order.Stop.{Stop}
use Rattle.orders.specs.declared.row.OrderRow.{OrderRow}
use Rattle.orders.specs.declared.row.StopRow.{StopRow}
use Rattle.orders.specs.Bounds.{keeps_bounds, InBounds, keeps_bounds_facts}

-- an order as a row (rules 3)
abbrev pub row_of : Order → OrderRow
row_of order = record {
  number = order.number;
  turn = order.turn;
  firm = order.firm;
  client = order.client;
  side = order.side;
  price = order.price;
  quantity = order.quantity;
  open_lots = order.open_lots;
  shown = order.shown;
  disclosed = order.disclosed;
  validity = order.validity;
  investor = order.investor;
  tag = order.tag;
}

-- a row as it is read: unchanged where it keeps the bounds; otherwise quantity, open and shown are
-- 1, disclosed is 0, and the rest is as stored (rules 3)
abbrev pub sound_row : (keeps : Bool) → OrderRow → OrderRow
sound_row keeps row = record row {
  quantity = if keeps then row.quantity else 1;
  open_lots = if keeps then row.open_lots else 1;
  shown = if keeps then row.shown else 1;
  disclosed = if keeps then row.disclosed else 0;
}

sound_row_either : (row : OrderRow) (keeps : Bool) →
    keeps_bounds row ≡ keeps → InBounds (sound_row keeps row)
sound_row_either row true e = keeps_bounds_facts row e
sound_row_either row false e = record {
  some_shown = omega arith;
  shown_within_open = omega arith;
  open_within_quantity = omega arith;
  quantity_within_most = omega arith;
  whole_shown = λ h. refl;
  part_within_disclosed = λ h. omega arith;
  hidden_within_parts = λ h. omega arith;
}

pub sound_row_in_bounds : (row : OrderRow) → InBounds (sound_row (keeps_bounds row) row)
sound_row_in_bounds row = sound_row_either row (keeps_bounds row) refl

-- the order that a row is read as (rules 3); a choice for each field, so that the fields that never
-- change compute
abbrev pub order_of : OrderRow → Order
order_of row = record {
  number = row.number;
  turn = row.turn;
  firm = row.firm;
  client = row.client;
  side = row.side;
  price = row.price;
  quantity = if keeps_bounds row then row.quantity else 1;
  open_lots = if keeps_bounds row then row.open_lots else 1;
  shown = if keeps_bounds row then row.shown else 1;
  disclosed = if keeps_bounds row then row.disclosed else 0;
  validity = row.validity;
  investor = row.investor;
  tag = row.tag;
  some_shown = (sound_row_in_bounds row).some_shown;
  shown_within_open = (sound_row_in_bounds row).shown_within_open;
  open_within_quantity = (sound_row_in_bounds row).open_within_quantity;
  quantity_within_most = (sound_row_in_bounds row).quantity_within_most;
  whole_shown = (sound_row_in_bounds row).whole_shown;
  part_within_disclosed = (sound_row_in_bounds row).part_within_disclosed;
  hidden_within_parts = (sound_row_in_bounds row).hidden_within_parts;
}

-- a stop as a row, and the stop that a row is read as (rules 3)
abbrev pub stop_row_of : Stop → StopRow
stop_row_of stop = record { order = row_of stop.order; trigger = stop.trigger }

abbrev pub stop_of : StopRow → Stop
stop_of row = record { order = order_of row.order; trigger = row.trigger }
