-- What a book means: four queues of fixed capacity, and what each call answers and leaves
-- (rules 5).
use Rattle.std.specs.Prelude.{ℕ, ◌≤◌, ◌==◌, ◌&&◌, Bool, List, [], length, map, is_some, Some, None, Option, Result, Ok, Err, ⊤, nat_lt, slice_set, if◌then◌else◌}
use Rattle.std.specs.List.{remove, slice_get, list_any}
use Rattle.std.specs.Option.{option_map, option_or}
use Rattle.orders.specs.declared.side.Side.{Side}
use Rattle.orders.specs.declared.side.Side.TheVariants.{Buy, Sell}
use Rattle.orders.specs.declared.order.Order.{Order}
use Rattle.orders.specs.declared.order.Stop.{Stop}
use Rattle.orders.specs.declared.rank.Rank.{Rank}
use Rattle.orders.specs.Ranks.{order_rank, stop_rank}
use Rattle.orders.specs.Rows.{row_of, stop_row_of}
use Rattle.books.specs.RankedLists.{put_by_rank, index_of_number, swap_allowed}
use Rattle.books.specs.declared.book.TheConstants.{MOST_RECORDS}
use Rattle.books.specs.declared.queue.Queue.{Queue}
use Rattle.books.specs.declared.queue.Queue.TheVariants.{Orders, Stops}
use Rattle.books.specs.declared.queue.Record.{Record}
use Rattle.books.specs.declared.queue.Record.TheVariants.{Standing, Waiting}
use Rattle.books.specs.declared.queue.PutError.{PutError}
use Rattle.books.specs.declared.queue.PutError.TheVariants.{Full, Twice}

-- one value for each side
pub record Both (A : Type 0) : Type 0 where
  pub buy : A
  pub sell : A

-- the value of a side
abbrev pub at : {A : Type 0} → Side → Both A → A
at Buy both = both.buy
at Sell both = both.sell

-- another value for a side
abbrev pub with_at : {A : Type 0} → Side → A → Both A → Both A
with_at Buy value both = record both { buy = value }
with_at Sell value both = record both { sell = value }

-- the four queues, each in rank order, and their capacities (rules 5)
pub record Queues : Type 0 where
  pub stands : Both (List Order)
  pub waits : Both (List Stop)
  pub standing_capacity : Both ℕ
  pub waiting_capacity : Both ℕ

-- the queues with other orders, or other stops, on a side
abbrev pub with_stands : Side → List Order → Queues → Queues
with_stands side orders queues = record queues { stands = with_at side orders queues.stands }

abbrev pub with_waits : Side → List Stop → Queues → Queues
with_waits side stops queues = record queues { waits = with_at side stops queues.waits }

-- the queue of a record, by its kind and side (rules 5)
abbrev pub queue_of : Record → Queue
queue_of (Standing order) = Orders order.side
queue_of (Waiting stop) = Stops stop.order.side

-- the number of a record (rules 1)
abbrev pub number_of : Record → ℕ
number_of (Standing order) = order.number
number_of (Waiting stop) = stop.order.number

-- how an order ranks, and how a stop ranks (rules 4)
abbrev pub rank_of : Order → Rank
rank_of order = order_rank (row_of order)

abbrev pub stop_rank_of : Stop → Rank
stop_rank_of stop = stop_rank (stop_row_of stop)

-- how a record ranks in its queue (rules 4)
abbrev pub record_rank : Record → Rank
record_rank (Standing order) = rank_of order
record_rank (Waiting stop) = stop_rank_of stop

-- how many records a queue has, and how many it can hold (rules 5)
abbrev pub count : Queue → Queues → ℕ
count (Orders side) queues = length (at side queues.stands)
count (Stops side) queues = length (at side queues.waits)

abbrev pub capacity : Queue → Queues → ℕ
capacity (Orders side) queues = at side queues.standing_capacity
capacity (Stops side) queues = at side queues.waiting_capacity

-- no count passes its capacity, and no capacity a million (rules 5)
pub record Bounded (queues : Queues) : Type 0 where
  pub count_within : (queue : Queue) → count queue queues ≤ capacity queue queues
  pub capacity_within : (queue : Queue) → capacity queue queues ≤ MOST_RECORDS

-- look: the record at a position of a queue (rules 5)
abbrev pub look_at : Queue → (index : ℕ) → Queues → Option Record
look_at (Orders side) index queues = option_map Standing (slice_get (at side queues.stands) index)
look_at (Stops side) index queues = option_map Waiting (slice_get (at side queues.waits) index)

-- find: queue and position of the first record with a number, in the order of the queues (rules 5)
abbrev pub found : (number : ℕ) → Queues → Option (Queue × ℕ)
found number queues =
    let order_at = index_of_number (λ (order : Order). order.number) number in
    let stop_at = index_of_number (λ (stop : Stop). stop.order.number) number in
    option_or (option_map (λ index. (Orders Buy, index)) (order_at queues.stands.buy))
    (option_or (option_map (λ index. (Orders Sell, index)) (order_at queues.stands.sell))
    (option_or (option_map (λ index. (Stops Buy, index)) (stop_at queues.waits.buy))
    (option_map (λ index. (Stops Sell, index)) (stop_at queues.waits.sell))))

-- what a put answers: done, or why not
abbrev pub PutAnswer : Type 0
PutAnswer = Result ⊤ PutError

-- put: full, else twice, else done (rules 5)
abbrev pub put_answer : Record → Queues → PutAnswer
put_answer «record» queues =
    if nat_lt (count (queue_of «record») queues) (capacity (queue_of «record») queues)
    then (if is_some (found (number_of «record») queues) then Err Twice else Ok tt)
    else Err Full

-- a record put into its queue by rank (rules 5)
abbrev pub inserted : Record → Queues → Queues
inserted (Standing order) queues =
    with_stands order.side (put_by_rank rank_of order (at order.side queues.stands)) queues
inserted (Waiting stop) queues =
    let side = stop.order.side in
    with_waits side (put_by_rank stop_rank_of stop (at side queues.waits)) queues

-- what a put leaves, by its answer (rules 5)
abbrev pub after_put : PutAnswer → Record → Queues → Queues
after_put (Ok _) «record» queues = inserted «record» queues
after_put (Err _) «record» queues = queues

-- what a take leaves: the record at a position of a queue is removed (rules 5)
abbrev pub taken : Queue → (index : ℕ) → Queues → Queues
taken (Orders side) index queues = with_stands side (remove (at side queues.stands) index) queues
taken (Stops side) index queues = with_waits side (remove (at side queues.waits) index) queues

-- what clear leaves: four empty queues (rules 5)
abbrev pub cleared : Queues → Queues
cleared queues = record queues {
  stands = record { buy = []; sell = [] };
  waits = record { buy = []; sell = [] };
}

-- whether a record may be rewritten: it has the rank, and with it the number, of the one at the
-- position (rules 5)
abbrev pub rewrite_allowed : (index : ℕ) → Record → Queues → Bool
rewrite_allowed index (Standing order) queues =
    swap_allowed rank_of index order (at order.side queues.stands)
rewrite_allowed index (Waiting stop) queues =
    swap_allowed stop_rank_of index stop (at stop.order.side queues.waits)

-- a record at a position of its queue, for the one there
abbrev pub record_set : (index : ℕ) → Record → Queues → Queues
record_set index (Standing order) queues =
    with_stands order.side (slice_set (at order.side queues.stands) index order) queues
record_set index (Waiting stop) queues =
    with_waits stop.order.side (slice_set (at stop.order.side queues.waits) index stop) queues

-- what a rewrite leaves: the queues as they were where it is refused (rules 5)
abbrev pub rewritten : (index : ℕ) → Record → Queues → Queues
rewritten index «record» queues =
    if rewrite_allowed index «record» queues then record_set index «record» queues else queues

-- the order that stands, or that the stop would bring into force
abbrev pub order_of_record : Record → Order
order_of_record (Standing order) = order
order_of_record (Waiting stop) = stop.order

-- the orders of a queue, those of stops too
abbrev pub orders_in : Queue → Queues → List Order
orders_in (Orders side) queues = at side queues.stands
orders_in (Stops side) queues = map (λ (stop : Stop). stop.order) (at side queues.waits)

-- whether something has a firm's client number, given how its firm and client number are read
abbrev pub has_client : {X : Type 0} → (X → ℕ) → (X → ℕ) → (firm client : ℕ) → X → Bool
has_client firm_of client_of firm client x = firm_of x == firm && client_of x == client

-- whether an order or stop of a queue has a firm's client number
abbrev pub holds_client : (firm client : ℕ) → Queue → Queues → Bool
holds_client firm client queue queues =
    let firm_of : Order → ℕ = λ order. order.firm in
    let client_of : Order → ℕ = λ order. order.client in
    list_any (has_client firm_of client_of firm client) (orders_in queue queues)

-- the order, or the stop, in the answer of a look
abbrev pub standing_order : Option Record → Option Order
standing_order (Some (Standing order)) = Some order
standing_order _ = None

abbrev pub waiting_stop : Option Record → Option Stop
waiting_stop (Some (Waiting stop)) = Some stop
waiting_stop _ = None
