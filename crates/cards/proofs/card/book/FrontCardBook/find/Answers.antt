use Rattle.std.proofs.Common.{◌∙◌}
use Rattle.cards.specs.CardQueues.{held_by}
use Rattle.cards.proofs.CardCalls.{found_same}
use Rattle.cards.proofs.card.book.FrontCardBook.find.Goals as goal

pub returns : goal.returns
returns g c = c.find.ensures ∙ found_same (held_by c.args.self.now) (g.B.Book.queues c.args.self.now.below) c.args.number
