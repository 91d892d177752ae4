use Rattle.std.proofs.Common.{◌≡◌, ◌≤◌, length, drop}
use Rattle.venue.specs.Days.{state}
use Rattle.laws.specs.Runs.{after}
use Rattle.laws.proofs.calls.run.Given as goal

-- what is left of the list, taken from here, ends as the whole does
abbrev pub invariant-loop-form : goal.invariant-loop-form
invariant-loop-form g l =
    (l.form-index ≤ length l.forms)
    × (after (drop l.form-index l.forms) (state (g.B.Book.queues l.book) l.tape l.current)
    ≡ after l.forms (state (g.B.Book.queues l.initial.book) l.initial.tape l.initial.current))
