use Rattle.std.proofs.Common.{◌≡◌, length, take}
use Rattle.slots.specs.SlotContents.{slot_rows}
use Rattle.slots.proofs.slots.count_in.Given as goal

abbrev pub invariant-loop-slot : goal.invariant-loop-slot
invariant-loop-slot g l = l.count ≡ length (slot_rows (take l.slot-index l.slots))
