-- The published number of each cause (numbers 7).
use Rattle.std.specs.Prelude.{ℕ}
use Rattle.tapes.specs.declared.cause.Cause.{Cause}
use Rattle.tapes.specs.declared.cause.Cause.TheVariants.{Requested, Leftover, ShortReach, OwnInvestor, NotPut, NoOpposite, DayClosed}

-- what a cancel line prints as its cause (numbers 7)
abbrev pub cause_number : Cause → ℕ
cause_number Requested = 1
cause_number Leftover = 2
cause_number ShortReach = 3
cause_number OwnInvestor = 4
cause_number NotPut = 5
cause_number NoOpposite = 6
cause_number DayClosed = 7
