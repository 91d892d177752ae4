-- What an iterator over the orders of a queue has still to give.
use Rattle.std.specs.Prelude.{List, drop}
use Rattle.orders.specs.declared.order.Order.{Order}
use Rattle.books.specs.declared.orders_of.OrdersOf.{OrdersOf}
use Rattle.books.specs.Model.{Queues, orders_in}

-- the orders that the iterator has not given yet
abbrev pub orders_left : {B : Type 0} → (B → Queues) → OrdersOf B → List Order
orders_left queues iterator = drop iterator.index (orders_in iterator.queue (queues iterator.book.now))
