-- A book of four stores keeps the bounds that its stores keep (rules 5).
use Rattle.std.specs.Prelude.{◌≤◌, map, length}
use Rattle.std.proofs.lemmas.List.{length-map}
use Rattle.orders.specs.declared.side.Side.TheVariants.{Buy, Sell}
use Rattle.orders.specs.Rows.{order_of, stop_of}
use Rattle.orders.specs.declared.row.OrderRow.{OrderRow}
use Rattle.orders.specs.declared.row.StopRow.{StopRow}
use Rattle.books.specs.declared.book.TheConstants.{MOST_RECORDS}
use Rattle.books.specs.declared.stored_book.StoredBook.{StoredBook}
use Rattle.books.specs.declared.queue.Queue.{Queue}
use Rattle.books.specs.declared.queue.Queue.TheVariants.{Orders, Stops}
use Rattle.books.specs.Model.{Bounded, count, capacity}
use Rattle.books.specs.Contents.{Contents}
use Rattle.books.specs.StoredQueues.{stored_queues}

items_within : {X Y : Type 0} (f : X → Y) (contents : Contents X) →
    length (map f contents.rows) ≤ contents.capacity
items_within f contents = rw length-map contents.count_within

module _ {O S : Type 0} (orders : O → Contents OrderRow) (stops : S → Contents StopRow) where
  pub stored_bounded : (b : StoredBook O S) → Bounded (stored_queues orders stops b)
  stored_bounded b = record { count_within = counts; capacity_within = capacities }
    where
      counts : (n : Queue) →
          count n (stored_queues orders stops b) ≤ capacity n (stored_queues orders stops b)
      counts (Orders Buy) = items_within order_of (orders b.bids)
      counts (Orders Sell) = items_within order_of (orders b.offers)
      counts (Stops Buy) = items_within stop_of (stops b.buys)
      counts (Stops Sell) = items_within stop_of (stops b.sells)

      capacities : (n : Queue) → capacity n (stored_queues orders stops b) ≤ MOST_RECORDS
      capacities (Orders Buy) = (orders b.bids).capacity_within
      capacities (Orders Sell) = (orders b.offers).capacity_within
      capacities (Stops Buy) = (stops b.buys).capacity_within
      capacities (Stops Sell) = (stops b.sells).capacity_within
