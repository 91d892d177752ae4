-- The letters of the lines as published (rules 16).
-- Definitions cite the constants of the code; these are their values.
use Rattle.std.specs.Prelude.{◌≡◌}
use Rattle.display.specs.declared.text.TheConstants.{ACCEPTED, REPLACED, TRIGGERED, TRADED, CANCELLED}

pub record PrintedKinds : Type 0 where
  pub accepted : ACCEPTED ≡ 65
  pub replaced : REPLACED ≡ 82
  pub triggered : TRIGGERED ≡ 83
  pub traded : TRADED ≡ 84
  pub cancelled : CANCELLED ≡ 67
