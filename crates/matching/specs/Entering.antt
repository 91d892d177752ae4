-- How an entry is accepted (rules 8).
use Rattle.std.specs.Prelude.{Ok, Err, ℕ, Bool, true, false, ◌&&◌, ◌||◌, Some, None, Option, nat_lt, if◌then◌else◌}
use Rattle.orders.specs.declared.side.Validity.{Validity}
use Rattle.orders.specs.declared.side.Validity.TheVariants.{Fok}
use Rattle.orders.specs.declared.price.Price.{Price}
use Rattle.orders.specs.declared.order.Order.{Order}
use Rattle.orders.specs.declared.order.Stop.{Stop}
use Rattle.orders.specs.Sides.{opposite}
use Rattle.orders.specs.Rows.{order_of}
use Rattle.orders.specs.Lots.{showing}
use Rattle.books.specs.declared.queue.Record.TheVariants.{Waiting}
use Rattle.books.specs.Model.{Queues, put_answer, PutAnswer}
use Rattle.tapes.specs.declared.cause.Cause.TheVariants.{ShortReach, NotPut}
use Rattle.matching.specs.declared.new_order.OrderType.{OrderType}
use Rattle.matching.specs.declared.new_order.OrderType.TheVariants.{Limit, Market, StopLimit}
use Rattle.matching.specs.declared.new_order.NewOrder.{NewOrder}
use Rattle.matching.specs.Reach.{reach, opposite_orders}
use Rattle.matching.specs.Model.{MatchState, Event, accepts, accepts_stop, accepts_and_cancels, accepts_unmatched, apply}
use Rattle.matching.specs.Running.{first_order, run_to_rest}

-- the order that is entered, wholly open; its stamp is its number and its first turn (rules 8)
abbrev pub entered_order : NewOrder → Price → ℕ → Order
entered_order new_order price stamp = order_of (record {
  number = stamp;
  turn = stamp;
  firm = new_order.firm;
  client = new_order.client;
  side = new_order.side;
  price = price;
  quantity = new_order.quantity;
  open_lots = new_order.quantity;
  shown = showing new_order.disclosed new_order.quantity;
  disclosed = new_order.disclosed;
  validity = new_order.validity;
  investor = new_order.investor;
  tag = new_order.tag;
})

-- FOK: an order that trades whole or is cancelled (rules 1)
abbrev pub all_or_none : Validity → Bool
all_or_none Fok = true
all_or_none _ = false

-- the reach is below the minimum, or that of a FOK below its quantity (rules 8)
abbrev pub falls_short : NewOrder → Order → Queues → Bool
falls_short new_order order queues =
    nat_lt (reach order (opposite_orders order queues)) new_order.minimum
    || (all_or_none new_order.validity
    && nat_lt (reach order (opposite_orders order queues)) new_order.quantity)

-- an order that is no stop becomes the incoming one, or is cancelled whole (rules 8)
abbrev pub accepts_or_cancels : NewOrder → Order → Queues → Event
accepts_or_cancels new_order order queues =
    if falls_short new_order order queues
    then accepts_and_cancels ShortReach order
    else accepts order

-- an order that is no stop, at its limit (rules 8)
abbrev pub arrival_at : Price → NewOrder → ℕ → Queues → Event
arrival_at price new_order stamp queues =
    accepts_or_cancels new_order (entered_order new_order price stamp) queues

abbrev pub entered_stop : Price → Order → Stop
entered_stop trigger order = record { order = order; trigger = trigger }

-- a stop joins its queue, or is cancelled where put refuses it (rules 8)
abbrev pub accepts_stop_or_cancels : PutAnswer → Stop → Event
accepts_stop_or_cancels (Ok _) stop = accepts_stop stop
accepts_stop_or_cancels (Err _) stop = accepts_and_cancels NotPut stop.order

abbrev pub stop_arrival : Stop → Queues → Event
stop_arrival stop queues = accepts_stop_or_cancels (put_answer (Waiting stop) queues) stop

-- a market order takes the price of the first opposite order as its limit (rules 8)
abbrev pub market_arrival : NewOrder → ℕ → Option Order → Queues → Event
market_arrival new_order stamp None queues = accepts_unmatched stamp new_order.quantity
market_arrival new_order stamp (Some first) queues = arrival_at first.price new_order stamp queues

-- the event that accepts an entry, by its type (rules 8)
abbrev pub arrival_as : OrderType → NewOrder → ℕ → Queues → Event
arrival_as (Limit price) new_order stamp queues = arrival_at price new_order stamp queues
arrival_as Market new_order stamp queues =
    market_arrival new_order stamp (first_order (opposite new_order.side) queues) queues
arrival_as (StopLimit limit trigger) new_order stamp queues =
    stop_arrival (entered_stop trigger (entered_order new_order limit stamp)) queues

abbrev pub arrival : NewOrder → ℕ → Queues → Event
arrival new_order stamp queues = arrival_as new_order.order_type new_order stamp queues

-- an entry: it is accepted and trades, and then each ripe stop does (rules 8, 12)
abbrev pub enter : NewOrder → MatchState → MatchState
enter new_order state =
    run_to_rest (apply (arrival new_order state.session.next_stamp state.queues) state)
