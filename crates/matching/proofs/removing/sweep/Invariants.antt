use Rattle.std.proofs.Common.{◌≡◌, ◌-◌, None}
use Rattle.books.specs.Model.{count}
use Rattle.matching.specs.declared.session.Session.{Session}
use Rattle.matching.specs.Removing.{sweep, swept}
use Rattle.matching.specs.MatchStates.{match_state}
use Rattle.matching.proofs.removing.sweep.Given as goal

-- the loop looks at one position after another; the rest of the sweep ends as the whole sweep does
abbrev pub invariant-loop-record : goal.invariant-loop-record
invariant-loop-record g l =
    (c : Session) → sweep (count l.queue (g.B.Book.queues l.book) - l.at) l.removal l.cause l.queue l.at (match_state (g.B.Book.queues l.book) l.tape c None)
    ≡ swept l.removal l.cause l.queue (match_state (g.B.Book.queues l.initial.book) l.initial.tape c None)

-- the records from this position on: a cancel takes one away, and a pass goes one on
abbrev pub decreases-loop-record : goal.decreases-loop-record
decreases-loop-record g l = count l.queue (g.B.Book.queues l.book) - l.at
