use Rattle.std.proofs.Common.{◌≡◌, rules, ◌∙◌, arith}
use Rattle.std.specs.List.{sum_by, take_while}
use Rattle.std.proofs.lemmas.Iterator.{YieldsList-from_map}
use Rattle.std.proofs.lemmas.Iterator.Consumers.{YieldsList-at, YieldsList-from_first, sum_by_from_yields_List, fits_by_from_yields_list}
use Rattle.std.proofs.lemmas.Iterator.Search.{YieldsList-from_take_while}
use borrow.Author.Tests.{tests}
use Rattle.matching.specs.Reach.{opposite_orders}
use Rattle.books.specs.OrdersLeft.{orders_left}
use Rattle.matching.proofs.ReachByChains.{not_own, shown_of, shown_few, shown_summed, sum_few, ahead_few}
use Rattle.matching.proofs.reaching.shown_ahead.Goals as goal

pub sum-requires-clause-fits : goal.sum-requires-clause-fits
sum-requires-clause-fits g c =
    let f = shown_of c.args.price in
    let l = opposite_orders c.args.order (g.B.Book.queues c.args.book.now) in
    let a = take_while (not_own c.args.order) l in
    let few = sum_few f (shown_few c.args.price) a (ahead_few c.args.order l c.opposite_orders.ensures.few) in
    fits_by_from_yields_list f a c.map.result _ (YieldsList-from_map _ f (YieldsList-at c.map.ensures.source (YieldsList-from_take_while _ (not_own c.args.order) (YieldsList-at c.take_while.ensures.source (YieldsList-from_first (λ y. y) (orders_left g.B.Book.queues) l c.opposite_orders.ensures.answer)) c.take_while.ensures.closure c.take_while.ensures.done (λ x r q k. search (rules, tests)))) c.map.ensures.closure (λ x r q k. search (rules, tests))) (omega arith)

pub returns : goal.returns
returns g c =
    let f = shown_of c.args.price in
    let l = opposite_orders c.args.order (g.B.Book.queues c.args.book.now) in
    let a = take_while (not_own c.args.order) l in
    let few = sum_few f (shown_few c.args.price) a (ahead_few c.args.order l c.opposite_orders.ensures.few) in
    let e : c.sum.result ≡ sum_by f a = sum_by_from_yields_List f a c.map.result _ c.sum.ensures.ran (YieldsList-from_map _ f (YieldsList-at c.map.ensures.source (YieldsList-from_take_while _ (not_own c.args.order) (YieldsList-at c.take_while.ensures.source (YieldsList-from_first (λ y. y) (orders_left g.B.Book.queues) l c.opposite_orders.ensures.answer)) c.take_while.ensures.closure c.take_while.ensures.done (λ x r q k. search (rules, tests)))) c.map.ensures.closure (λ x r q k. search (rules, tests))) in
    record { small = omega arith; answer = e ∙ shown_summed c.args.order c.args.price l }
