use Rattle.std.proofs.Common.{ap, ◌∙◌}
use Rattle.books.specs.Model.{put_answer}
use Rattle.cards.specs.CardQueues.{held_by}
use Rattle.cards.proofs.CardCalls.{answer_same}
use Rattle.cards.proofs.card.book.FrontCardBook.put.Goals as goal

pub returns-clause-answer : goal.returns-clause-answer
returns-clause-answer g c =
    c.put.ensures.answer ∙ answer_same (held_by c.flush.new.self) (g.B.Book.queues c.flush.new.self.below) c.args.record
    ∙ ap (put_answer c.args.record) c.flush.ensures.state
