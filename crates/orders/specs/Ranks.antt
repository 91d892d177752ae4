-- Ranks: who comes first in a queue (rules 4).
use Rattle.std.specs.Prelude.{ℕ, ◌-◌, Bool, ◌&&◌, ◌==◌, nat_lt, if◌then◌else◌}
use Rattle.orders.specs.declared.side.Side.{Side}
use Rattle.orders.specs.declared.side.Side.TheVariants.{Buy, Sell}
use Rattle.orders.specs.declared.price.Price.{Price}
use Rattle.orders.specs.declared.rank.Rank.{Rank}
use Rattle.orders.specs.declared.rank.TheConstants.{HIGHEST_KEY}
use Rattle.orders.specs.declared.row.OrderRow.{OrderRow}
use Rattle.orders.specs.declared.row.StopRow.{StopRow}
use Rattle.orders.specs.Prices.{level}

-- ahead: lower key, then lower turn, then lower number (rules 4)
abbrev pub ranks_ahead : Rank → Rank → Bool
ranks_ahead a b =
    if a.key == b.key
    then (if a.turn == b.turn then nat_lt a.number b.number else nat_lt a.turn b.turn)
    else nat_lt a.key b.key

-- whether two ranks are the same: in key, turn and number (rules 4)
abbrev pub same_rank : Rank → Rank → Bool
same_rank a b = a.key == b.key && (a.turn == b.turn && a.number == b.number)

-- bids by higher price, offers by lower price (rules 4)
abbrev pub order_key : Side → Price → ℕ
order_key Buy price = HIGHEST_KEY - level price
order_key Sell price = level price

-- buy stops by lower trigger, sell stops by higher trigger (rules 4)
abbrev pub stop_key : Side → Price → ℕ
stop_key Buy trigger = level trigger
stop_key Sell trigger = HIGHEST_KEY - level trigger

-- how an order ranks, by its row (rules 4)
abbrev pub order_rank : OrderRow → Rank
order_rank row = record { key = order_key row.side row.price; turn = row.turn; number = row.number }

-- how a stop ranks, by its row (rules 4)
abbrev pub stop_rank : StopRow → Rank
stop_rank row = record {
  key = stop_key row.order.side row.trigger;
  turn = row.order.turn;
  number = row.order.number;
}
