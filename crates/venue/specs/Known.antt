-- Which order or stop a firm names, and whether a client number is taken.
use Rattle.std.specs.Prelude.{ℕ, Bool, true, not, ◌&&◌, ◌||◌, Some, None, Ok, Err, Option, Result, ◌==◌, if◌then◌else◌}
use Rattle.std.specs.List.{list_any}
use Rattle.orders.specs.declared.side.Side.TheVariants.{Buy, Sell}
use Rattle.orders.specs.declared.order.Order.{Order}
use Rattle.books.specs.declared.queue.Queue.{Queue}
use Rattle.books.specs.declared.queue.Queue.TheVariants.{Orders, Stops}
use Rattle.books.specs.declared.queue.Record.{Record}
use Rattle.books.specs.declared.queue.Record.TheVariants.{Standing, Waiting}
use Rattle.books.specs.Model.{Queues, found, look_at, order_of_record, orders_in}
use Rattle.forms.specs.declared.refusal.Refusal.{Refusal}
use Rattle.forms.specs.declared.refusal.Refusal.TheVariants.{UnknownOrder, ClientNumberTaken, ChangeOfStop}
use Rattle.venue.specs.declared.lookup.Found.{Found}

-- an order other than the excepted one, which is the changed one (rules 13)
abbrev pub is_other : Option ℕ → ℕ → Bool
is_other None number = true
is_other (Some except) number = not (except == number)

-- another order or stop of the firm that has the client number (rules 8, 13)
abbrev pub claims : (firm client : ℕ) → Option ℕ → Order → Bool
claims firm client except order =
    order.firm == firm && (order.client == client && is_other except order.number)

abbrev pub claimed_in : (firm client : ℕ) → Option ℕ → Queue → Queues → Bool
claimed_in firm client except queue queues =
    list_any (claims firm client except) (orders_in queue queues)

abbrev pub client_claimed : (firm client : ℕ) → Option ℕ → Queues → Bool
client_claimed firm client except queues =
    claimed_in firm client except (Orders Buy) queues
    || (claimed_in firm client except (Orders Sell) queues
    || (claimed_in firm client except (Stops Buy) queues
    || claimed_in firm client except (Stops Sell) queues))

-- no other record of the firm has the client number, or 25 (rules 8, 13)
abbrev pub client_free : (firm client : ℕ) → Option ℕ → Queues → Result (Unit {0}) Refusal
client_free firm client except queues =
    if client_claimed firm client except queues then Err ClientNumberTaken else Ok tt

-- the record at a position is the firm's; another firm's is unknown (rules 13, 14)
abbrev pub of_firm : ℕ → Queue → ℕ → Option Record → Result Found Refusal
of_firm firm queue at None = Err UnknownOrder
of_firm firm queue at (Some found) =
    if (order_of_record found).firm == firm
    then Ok (record { queue = queue; at = at; «record» = found })
    else Err UnknownOrder

abbrev pub firms_record_at : ℕ → Option (Queue × ℕ) → Queues → Result Found Refusal
firms_record_at firm None queues = Err UnknownOrder
firms_record_at firm (Some place) queues =
    of_firm firm place.0 place.1 (look_at place.0 place.1 queues)

-- the firm's order or stop of a number, or 24 (rules 13, 14)
abbrev pub firms_record : (firm number : ℕ) → Queues → Result Found Refusal
firms_record firm number queues = firms_record_at firm (found number queues) queues

-- an order that stands; a stop is not changed, 27 (rules 13)
abbrev pub standing_in : Record → Result Order Refusal
standing_in (Standing order) = Ok order
standing_in (Waiting stop) = Err ChangeOfStop
