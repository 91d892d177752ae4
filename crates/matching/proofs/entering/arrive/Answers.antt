use Rattle.std.proofs.Common.{None, Option, sym, ap, ◌∙◌}
use Rattle.orders.specs.declared.side.Side.{Side}
use Rattle.orders.specs.declared.order.Order.{Order}
use Rattle.matching.specs.declared.new_order.OrderType.{OrderType}
use Rattle.matching.specs.Model.{apply}
use Rattle.matching.specs.Running.{first_order}
use Rattle.matching.specs.Entering.{market_arrival, arrival_as}
use Rattle.matching.specs.MatchStates.{match_state}
use Rattle.matching.proofs.entering.arrive.Goals as goal

-- no order stands opposite
pub returns-in-None : goal.returns-in-None
returns-in-None g c =
    let q = g.B.Book.queues c.args.book.now in
    let a = c.args.new_order in
    let n = c.args.session.now.next_stamp in
    let f = match_state q c.args.tape.now c.args.session.now None in
    c.accept_unmatched.ensures q
    ∙ ap (λ (m : Option Order). apply (market_arrival a n m q) f) (sym c.in-None.is ∙ c.first_order.ensures ∙ ap (λ (s : Side). first_order s q) c.opposite.ensures)
    ∙ ap (λ (k : OrderType). apply (arrival_as k a n q) f) (sym c.in-Market.is)
