use Rattle.cards.specs.CardQueues.{held_by}
use Rattle.cards.proofs.CardCalls.{look_first}
use Rattle.cards.proofs.card.FrontCard.first.Goals as goal

pub returns : goal.returns
returns g c = rw (c.over.ensures, c.held.ensures.answer, c.look.ensures) (look_first (held_by c.args.self.now) (g.B.Book.queues c.args.self.now.below) c.args.queue)
