use Rattle.std.proofs.Common.{◌≡◌, take}
use Rattle.std.specs.Str.Parse.{digits_value}
use Rattle.sheets.proofs.cells.number_of.Given as goal

-- the digits so far wrote the number
abbrev pub invariant-loop-b : goal.invariant-loop-b
invariant-loop-b l = l.number ≡ digits_value 10 (take l.b-index l.digits)
