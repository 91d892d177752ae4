use Rattle.std.proofs.Common.{ap, ◌∙◌}
use Rattle.cards.specs.CardQueues.{held_by}
use Rattle.cards.specs.Held.{covered}
use Rattle.cards.proofs.CardCalls.{allowed_same, rewrite_later}
use Rattle.cards.proofs.card.book.FrontCardBook.rewrite.Goals as goal

pub returns : goal.returns
returns g c =
    let h = held_by c.args.self.now in
    let q = g.B.Book.queues c.args.self.now.below in
    record {
      answer = c.rewrite.ensures.answer ∙ allowed_same h q c.args.index c.args.record;
      state = ap (covered h) c.rewrite.ensures.state ∙ rewrite_later h q c.args.index c.args.record c.if-index-eq0.false;
      unchanged = λ first. absurd (c.if-index-eq0.false first);
    }
