use Rattle.std.proofs.Common.{rules}
use Rattle.slots.proofs.SlotCalls.{replace_leaves, replace_past}
use Rattle.slots.proofs.store.SlotStoreQueueStore.replace.Goals as goal

pub returns-in-Some-clause-state : goal.returns-in-Some-clause-state
returns-in-Some-clause-state g c = replace_leaves c.args.self.now.slots (search rules) c.args.index c.in-Some.slot c.in-Some.ensures c.args.row

pub returns-in_default-clause-state : goal.returns-in_default-clause-state
returns-in_default-clause-state g c = replace_past c.args.self.now.slots (search rules) c.args.index c.in_default.ensures c.args.row
