-- The side of a held row, if there is one: each is held for a queue of its own side.
use Rattle.std.specs.Prelude.{Bool, true, Some, None, Option}
use Rattle.orders.specs.declared.side.Side.{Side}
use Rattle.orders.specs.declared.row.OrderRow.{OrderRow}
use Rattle.orders.specs.declared.row.StopRow.{StopRow}
use Rattle.orders.specs.Sides.{same_side}

-- whether a held order's row, if there is one, is of a side
abbrev pub order_on_side : Side → Option OrderRow → Bool
order_on_side side None = true
order_on_side side (Some row) = same_side side row.side

-- whether a held stop's row, if there is one, is of a side
abbrev pub stop_on_side : Side → Option StopRow → Bool
stop_on_side side None = true
stop_on_side side (Some row) = same_side side row.order.side
