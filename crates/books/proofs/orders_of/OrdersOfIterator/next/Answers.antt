use Rattle.std.proofs.Common.{length, sym, ap, ◌∙◌, arith}
use Rattle.std.proofs.lemmas.Option.{slice_get_within}
use Rattle.books.specs.Model.{orders_in}
use Rattle.books.proofs.LooksGiveOrders.{one_more, no_more, few_orders}
use Rattle.books.proofs.orders_of.OrdersOfIterator.next.Goals as goal

pub returns-in_err-order-clause-steps : goal.returns-in_err-order-clause-steps
returns-in_err-order-clause-steps g c =
    let e = no_more (orders_in c.args.self.now.queue (g.B.Book.queues c.args.self.now.book.now)) c.args.self.now.index (sym c.order_at.ensures ∙ c.in_err-order.was) in
    rw c.from_residual.ensures (e, e)

pub overflow_add-self : goal.overflow_add-self
overflow_add-self g c =
    let q = g.B.Book.queues c.args.self.now.book.now in
    let n = slice_get_within (orders_in c.args.self.now.queue q) c.args.self.now.index c.in_ok-order.order (sym c.order_at.ensures ∙ c.in_ok-order.was) in
    record { fits = omega (arith, few_orders c.args.self.now.queue q (g.met.B.Book.bounded c.args.self.now.book.now)) }

pub returns-clause-steps : goal.returns-clause-steps
returns-clause-steps g c = one_more (orders_in c.args.self.now.queue (g.B.Book.queues c.args.self.now.book.now)) c.args.self.now.index c.in_ok-order.order (sym c.order_at.ensures ∙ c.in_ok-order.was)

pub returns-clause-goes : goal.returns-clause-goes
returns-clause-goes g c =
    let e = one_more (orders_in c.args.self.now.queue (g.B.Book.queues c.args.self.now.book.now)) c.args.self.now.index c.in_ok-order.order (sym c.order_at.ensures ∙ c.in_ok-order.was) in
    record { on = λ h. (tt, tt, omega (arith, ap length e)); keeps = tt; rests = λ h. tt }
