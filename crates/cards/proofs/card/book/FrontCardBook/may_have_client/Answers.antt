use Rattle.std.proofs.Common.{ap, sym, ◌∙◌}
use Rattle.cards.specs.CardQueues.{held_by}
use Rattle.cards.specs.Held.{one_is, record_has_client}
use Rattle.cards.proofs.ClientOverFirst.{held_or_below, then_below}
use Rattle.cards.proofs.card.book.FrontCardBook.may_have_client.Goals as goal

pub returns-else-is_of : goal.returns-else-is_of
returns-else-is_of g c =
    let s = c.args.self.now in
    let none = ap (one_is (record_has_client c.args.firm c.args.client)) (sym c.held.ensures.answer) ∙ sym c.is_of.ensures ∙ c.if-is_of.false in
    λ e. c.may_have_client.ensures (then_below _ _ (held_or_below (held_by s) (g.B.Book.queues s.below) c.args.firm c.args.client c.args.queue e) none)
