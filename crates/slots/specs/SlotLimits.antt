-- The slots of a queue as published (rules 5).
-- Definitions cite the constants of the code; these are their values.
use Rattle.std.specs.Prelude.{◌≡◌}
use Rattle.slots.specs.declared.store.TheConstants.{SLOTS}

pub record SlotLimits : Type 0 where
  pub slots : SLOTS ≡ 32
