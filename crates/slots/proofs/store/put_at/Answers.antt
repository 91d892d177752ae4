use Rattle.std.proofs.Common.{refl}
use Rattle.slots.proofs.PutAtGap.{put_before_gap, put_behind_gap}
use Rattle.slots.proofs.store.put_at.Goals as goal

pub returns-then-free-gap-clause-state : goal.returns-then-free-gap-clause-state
returns-then-free-gap-clause-state g c =
    let a = c.args in
    rw c.rotate_left.ensures.after (put_before_gap a.slots.now a.free a.gap _ a.row refl c.if-free-gap.true c.requires.gap c.requires.free)

pub returns-else-free-gap-clause-state : goal.returns-else-free-gap-clause-state
returns-else-free-gap-clause-state g c =
    let a = c.args in
    rw c.rotate_right.ensures.after (put_behind_gap a.slots.now a.free a.gap _ a.row refl c.if-free-gap.false c.requires.within c.requires.free)
