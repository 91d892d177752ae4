use Rattle.std.proofs.Common.{None, sym, ap, ◌∙◌}
use Rattle.std.proofs.lemmas.Bool.{cond-false}
use Rattle.orders.specs.declared.order.Order.{Order}
use Rattle.matching.specs.Model.{amends, apply}
use Rattle.matching.specs.MatchStates.{match_state}
use Rattle.matching.proofs.changing.change.Goals as goal

pub returns : goal.returns
returns g c =
    let f = match_state (g.B.Book.queues c.args.book.now) c.args.tape.now c.args.session.now None in
    c.amend.ensures c.args.session.now
    ∙ ap (λ (o : Order). apply (amends c.args.at o) f) c.amended_order.ensures
    ∙ sym (cond-false _ _ _ (sym c.if-loses_turn.ensures))
