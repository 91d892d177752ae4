use Rattle.std.proofs.Common.{rules}
use Rattle.slots.proofs.SlotCalls.{put_answers, put_leaves}
use Rattle.slots.proofs.store.SlotStoreQueueStore.put.Goals as goal

pub returns-clause-answer : goal.returns-clause-answer
returns-clause-answer g c = put_answers c.args.self.now.slots (search rules) c.in-Some.free c.in-Some.ensures

pub returns-clause-state : goal.returns-clause-state
returns-clause-state g c =
    put_leaves c.args.self.now.slots (search rules) g.T.Ranked.rank c.put_at.new.slots c.put_at.ensures.unchanged c.gap_of-gap.result c.args.row
    c.rank.result c.rank.ensures c.gap_of-gap.ensures.answer c.put_at.ensures.state
