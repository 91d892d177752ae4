use Rattle.std.proofs.Common.{◌∙◌}
use Rattle.cards.specs.CardQueues.{held_by}
use Rattle.cards.proofs.CardCalls.{look_later}
use Rattle.cards.proofs.card.book.FrontCardBook.look.Goals as goal

pub returns : goal.returns
returns g c = c.look.ensures
    ∙ look_later (held_by c.args.self.now) (g.B.Book.queues c.args.self.now.below) c.args.queue c.args.index c.if-index-eq0.false
