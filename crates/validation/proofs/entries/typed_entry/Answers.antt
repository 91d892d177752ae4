use Rattle.std.proofs.Common.{rules, arith}
use Rattle.std.proofs.lemmas.Grind.{common_steps}
use Rattle.validation.proofs.InBoundsReads.{reads_as}
use Rattle.validation.proofs.entries.typed_entry.Goals as goal

-- each number reads as itself, within its bounds and its type
pub returns : goal.returns
returns c = grind (
  arith,
  common_steps,
  reads_as 16 _ _ _ _ c.read.ensures (search rules),
  reads_as 32 _ _ _ _ c.read-2.ensures (search rules),
  reads_as 32 _ _ _ _ c.read-3.ensures (search rules),
  reads_as 32 _ _ _ _ c.read-4.ensures (search rules),
  reads_as 32 _ _ _ _ c.read-5.ensures (search rules),
  reads_as 64 _ _ _ _ c.read-6.ensures (search rules),
  reads_as 8 _ _ _ _ c.read-7.ensures (search rules),
)
