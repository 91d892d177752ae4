use Rattle.std.proofs.Common.{refl, ap, ◌∙◌}
use Rattle.cards.specs.CardQueues.{held_by}
use Rattle.cards.proofs.CardCalls.{allowed_by_look, allowed_same, held_back, refused}
use Rattle.cards.proofs.card.FrontCard.hold_back.Goals as goal

pub returns-then-allowed : goal.returns-then-allowed
returns-then-allowed g c =
    let h = held_by c.args.self.now in
    let q = g.B.Book.queues c.args.self.now.below in
    let r = c.args.record in
    let last = c.hold.new.self in
    record {
      answer = allowed_by_look r q c.queue.result c.look.result c.ranks_as-allowed.result c.queue.ensures c.look.ensures c.ranks_as-allowed.ensures
          ∙ allowed_same h q 0 r;
      state = held_back h q r (held_by last) (g.B.Book.queues last.below) c.hold.ensures.state (ap g.B.Book.queues c.hold.ensures.unchanged)
          (allowed_by_look r q c.queue.result c.look.result _ c.queue.ensures c.look.ensures c.if-allowed.ensures);
      unchanged = c.hold.ensures.unchanged;
    }

pub returns-else-allowed : goal.returns-else-allowed
returns-else-allowed g c =
    let h = held_by c.args.self.now in
    let q = g.B.Book.queues c.args.self.now.below in
    let r = c.args.record in
    record {
      answer = allowed_by_look r q c.queue.result c.look.result c.ranks_as-allowed.result c.queue.ensures c.look.ensures c.ranks_as-allowed.ensures
          ∙ allowed_same h q 0 r;
      state = refused h q r (allowed_by_look r q c.queue.result c.look.result _ c.queue.ensures c.look.ensures c.if-allowed.ensures);
      unchanged = refl;
    }
