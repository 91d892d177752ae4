use Rattle.std.proofs.Common.{refl, ap, ◌∙◌}
use Rattle.cards.specs.CardQueues.{held_by}
use Rattle.cards.proofs.CardCalls.{flushed}
use Rattle.cards.proofs.card.FrontCard.flush.Goals as goal

pub returns-in-Some-clause-state : goal.returns-in-Some-clause-state
returns-in-Some-clause-state g c =
    let t = c.in-Some.ensures in
    let last = c.discard.new.self in
    flushed (held_by c.args.self.now) (g.B.Book.queues c.args.self.now.below) c.in-Some.held c.args.queue (held_by last) (g.B.Book.queues last.below) (t.queue c.in-Some.held refl) t.answer c.discard.ensures.state (ap g.B.Book.queues c.discard.ensures.unchanged ∙ c.rewrite.ensures.state)
