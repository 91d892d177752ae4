use Rattle.std.proofs.Common.{◌≡◌, ◌-◌}
use Rattle.sheets.specs.Layout.{first_misplaced_from, first_misplaced}
use Rattle.sheets.proofs.directory.Directory.first_misplaced.Given as goal

-- the search from here on gives the answer of the whole
abbrev pub invariant-loop-k : goal.invariant-loop-k
invariant-loop-k l = first_misplaced_from l.self l.bytes (l.count - l.k) l.k l.least ≡ first_misplaced l.self l.bytes l.count
