use Rattle.std.proofs.Common.{◌≡◌, rules, ◌∙◌, arith}
use Rattle.std.specs.List.{sum_by}
use Rattle.std.proofs.iter.runs.Made.{chains}
use Rattle.std.proofs.iter.Rest.{running}
use Rattle.matching.specs.Reach.{opposite_orders}
use Rattle.matching.proofs.ReachByChains.{open_of, open_few, open_summed, sum_few}
use Rattle.matching.proofs.reaching.counted_open_lots.Goals as goal

pub sum-requires-clause-fits : goal.sum-requires-clause-fits
sum-requires-clause-fits g c =
    let few = sum_few (open_of c.args.order c.args.price) (open_few c.args.order c.args.price) (opposite_orders c.args.order (g.B.Book.queues c.args.book.now)) c.opposite_orders.ensures.few in
    search (rules, chains, running)

pub returns : goal.returns
returns g c =
    let f = open_of c.args.order c.args.price in
    let l = opposite_orders c.args.order (g.B.Book.queues c.args.book.now) in
    let few = sum_few f (open_few c.args.order c.args.price) l c.opposite_orders.ensures.few in
    let e : c.sum.result ≡ sum_by f l = search (rules, chains, running) in
    record { small = omega arith; answer = e ∙ open_summed c.args.order c.args.price l }
