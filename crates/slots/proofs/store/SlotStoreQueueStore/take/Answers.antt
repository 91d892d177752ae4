use Rattle.std.proofs.Common.{rules, ◌∙◌}
use Rattle.slots.proofs.SlotCalls.{take_answers, take_leaves, take_past_answers, take_past_leaves}
use Rattle.slots.proofs.store.SlotStoreQueueStore.take.Goals as goal

pub returns-in_err-slot-clause-answer : goal.returns-in_err-slot-clause-answer
returns-in_err-slot-clause-answer g c = c.from_residual.ensures ∙ take_past_answers c.args.self.now.slots (search rules) c.args.index c.in_err-slot.ensures

pub returns-in_err-slot-clause-state : goal.returns-in_err-slot-clause-state
returns-in_err-slot-clause-state g c = take_past_leaves c.args.self.now.slots (search rules) c.args.index c.in_err-slot.ensures

pub returns-clause-answer : goal.returns-clause-answer
returns-clause-answer g c = c.take.ensures.value ∙ take_answers c.args.self.now.slots (search rules) c.args.index c.in_ok-slot.slot c.in_ok-slot.ensures c.index-self-slot.result

pub returns-clause-state : goal.returns-clause-state
returns-clause-state g c = rw c.take.ensures.after (take_leaves c.args.self.now.slots (search rules) c.args.index c.in_ok-slot.slot c.in_ok-slot.ensures)
