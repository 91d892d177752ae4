-- The end of the stamps as published (rules 2).
-- Definitions cite the constants of the code; these are their values.
use Rattle.std.specs.Prelude.{◌≡◌}
use Rattle.matching.specs.declared.session.TheConstants.{STAMPS_END}

pub record StampLimits : Type 0 where
  pub end : STAMPS_END ≡ 1000000000
