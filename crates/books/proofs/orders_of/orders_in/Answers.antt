use Rattle.books.proofs.LooksGiveOrders.{few_orders}
use Rattle.books.proofs.orders_of.orders_in.Goals as goal

pub returns-clause-few : goal.returns-clause-few
returns-clause-few g c = few_orders c.args.queue (g.B.Book.queues c.args.book.now) (g.met.B.Book.bounded c.args.book.now)
