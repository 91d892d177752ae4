use Rattle.matching.specs.Running.{weight}
use Rattle.matching.specs.MatchStates.{match_state}
use Rattle.matching.proofs.LoopTurns.{OnTheWay}
use Rattle.matching.proofs.running.run_to_rest.Given as goal

-- the outer loop triggers ripe stops; the match state is on the way from the first one to its rest
abbrev pub invariant-stops : goal.invariant-stops
invariant-stops g l = OnTheWay (match_state (g.B.Book.queues l.initial.book) l.initial.tape l.initial.session l.initial.incoming) (match_state (g.B.Book.queues l.book) l.tape l.session l.incoming)

-- every turn of either loop lowers the weight
abbrev pub decreases-stops : goal.decreases-stops
decreases-stops g l = weight (match_state (g.B.Book.queues l.book) l.tape l.session l.incoming)

-- the inner loop trades the incoming order; the match state is on the way as well
abbrev pub invariant-trading : goal.invariant-trading
invariant-trading g l = OnTheWay (match_state (g.B.Book.queues l.initial.book) l.initial.tape l.initial.session l.initial.incoming) (match_state (g.B.Book.queues l.book) l.tape l.session l.incoming)

abbrev pub decreases-trading : goal.decreases-trading
decreases-trading g l = weight (match_state (g.B.Book.queues l.book) l.tape l.session l.incoming)
