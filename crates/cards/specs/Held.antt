-- Held records, one for each queue at most, and queues with them in place of their first ones
-- (rules 5).
use Rattle.std.specs.Prelude.{ℕ, Bool, false, ◌&&◌, ◌==◌, List, Some, None, Option, if◌then◌else◌}
use Rattle.std.specs.Option.{option_map}
use Rattle.orders.specs.declared.order.Order.{Order}
use Rattle.orders.specs.declared.order.Stop.{Stop}
use Rattle.orders.specs.declared.rank.Rank.{Rank}
use Rattle.orders.specs.Ranks.{same_rank}
use Rattle.books.specs.RankedLists.{swapped}
use Rattle.books.specs.Model.{Both, at, with_at, Queues, rank_of, stop_rank_of, order_of_record}
use Rattle.books.specs.declared.queue.Queue.{Queue}
use Rattle.books.specs.declared.queue.Queue.TheVariants.{Orders, Stops}
use Rattle.books.specs.declared.queue.Record.{Record}
use Rattle.books.specs.declared.queue.Record.TheVariants.{Standing, Waiting}

-- the record that is held for each queue: the latest rewrite of its first record
pub record Held : Type 0 where
  pub orders : Both (Option Order)
  pub stops : Both (Option Stop)

-- the record that is held for a queue
abbrev pub held_at : Queue → Held → Option Record
held_at (Orders side) held = option_map Standing (at side held.orders)
held_at (Stops side) held = option_map Waiting (at side held.stops)

-- a record is held for its queue
abbrev pub held_with : Record → Held → Held
held_with (Standing order) held =
    record held { orders = with_at order.side (Some order) held.orders }
held_with (Waiting stop) held =
    record held { stops = with_at stop.order.side (Some stop) held.stops }

-- nothing is held for a queue
abbrev pub held_without : Queue → Held → Held
held_without (Orders side) held = record held { orders = with_at side None held.orders }
held_without (Stops side) held = record held { stops = with_at side None held.stops }

-- nothing is held
abbrev pub none_held : Held
none_held = record {
  orders = record { buy = None; sell = None };
  stops = record { buy = None; sell = None };
}

-- a list with a held record in place of a first one of its rank, and with it of its number
abbrev pub over : {X : Type 0} → (X → Rank) → Option X → List X → List X
over rank_of None xs = xs
over rank_of (Some held) xs = swapped rank_of 0 held xs

-- the first record of that list, given the first of the list below
abbrev pub over_first : {X : Type 0} → (X → Rank) → Option X → Option X → Option X
over_first rank_of None first = first
over_first rank_of (Some held) None = None
over_first rank_of (Some held) (Some first) =
    if same_rank (rank_of first) (rank_of held) then Some held else Some first

-- whether there is one, and it passes a test
abbrev pub one_is : {X : Type 0} → (X → Bool) → Option X → Bool
one_is test None = false
one_is test (Some x) = test x

-- whether a record has a firm's client number
abbrev pub record_has_client : (firm client : ℕ) → Record → Bool
record_has_client firm client given =
    let order = order_of_record given in
    order.firm == firm && order.client == client

-- queues with held records in place of their first ones (rules 5)
abbrev pub covered : Held → Queues → Queues
covered held queues = record queues {
  stands = record {
    buy = over rank_of held.orders.buy queues.stands.buy;
    sell = over rank_of held.orders.sell queues.stands.sell;
  };
  waits = record {
    buy = over stop_rank_of held.stops.buy queues.waits.buy;
    sell = over stop_rank_of held.stops.sell queues.waits.sell;
  };
}
