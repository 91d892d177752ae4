use Rattle.std.proofs.Common.{ap, ◌∙◌}
use Rattle.cards.specs.CardQueues.{held_by}
use Rattle.cards.specs.Held.{covered}
use Rattle.cards.proofs.CardCalls.{take_later, first_taken}
use Rattle.cards.proofs.card.book.FrontCardBook.take.Goals as goal

pub returns-then-index-eq0-clause-state : goal.returns-then-index-eq0-clause-state
returns-then-index-eq0-clause-state g c =
    let last = c.discard.new.self in
    rw c.if-index-eq0.true (first_taken (held_by c.args.self.now) (g.B.Book.queues c.args.self.now.below) c.args.queue (held_by last) (g.B.Book.queues last.below) c.discard.ensures.state (ap g.B.Book.queues c.discard.ensures.unchanged ∙ c.take.ensures.state))

pub returns-clause-state : goal.returns-clause-state
returns-clause-state g c =
    let h = held_by c.args.self.now in
    ap (covered h) c.take-2.ensures.state ∙ take_later h (g.B.Book.queues c.args.self.now.below) c.args.queue c.args.index c.if-index-eq0.false
