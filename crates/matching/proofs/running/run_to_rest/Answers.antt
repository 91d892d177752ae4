use Rattle.std.proofs.Common.{Some, None, ap, ◌∙◌}
use Rattle.tapes.specs.declared.line.Line.{Line}
use Rattle.tapes.specs.Logs.{Log, line_added}
use Rattle.matching.specs.Model.{MatchState}
use Rattle.matching.specs.MatchStates.{match_state}
use Rattle.matching.proofs.WeightFalls.{Turn}
use Rattle.matching.proofs.LoopTurns.{on_the_way_at_start, on_the_way_after_turn, on_the_way_after_both, weight_falls_on_the_way, turn_without_opposite, turn_beyond_limit, turn_own_investor, turn_trade, turn_trigger, rest_without_ripe}
use Rattle.matching.proofs.running.run_to_rest.Given as given
use Rattle.matching.proofs.running.run_to_rest.Goals as goal

-- at the start of each loop nothing has happened in it
pub stops-init : goal.stops-init
stops-init g c = on_the_way_at_start _

pub trading-init : goal.trading-init
trading-init g c = on_the_way_at_start _

-- without an opposite order the leftover stands or is cancelled
no_opposite : (g : given.Over) (c : goal.After-rest_or_cancel g) → Turn (match_state (g.B.Book.queues c.trading.book) c.trading.tape c.trading.session c.trading.incoming) (match_state (g.B.Book.queues c.rest_or_cancel.new.book) c.rest_or_cancel.new.tape c.trading.session None)
no_opposite g c =
    turn_without_opposite (g.B.Book.queues c.trading.book) c.trading.tape c.trading.session c.trading.incoming c.in-Some.order c.opposite.result c.first_order.result _
    c.in-Some.is c.opposite.ensures c.first_order.ensures c.in_default-first_order.is (c.rest_or_cancel.ensures c.trading.session)

pub trading-smaller-in_default-first_order : goal.trading-smaller-in_default-first_order
trading-smaller-in_default-first_order g c = (no_opposite g c).weight_falls

pub trading-preserved-in_default-first_order : goal.trading-preserved-in_default-first_order
trading-preserved-in_default-first_order g c = on_the_way_after_turn _ _ _ c.trading.invariant (no_opposite g c)

-- the first opposite price is not within the limit, and the leftover stands or is cancelled
beyond_limit : (g : given.Over) (c : goal.After-rest_or_cancel-then-not-may_trade_at g) → Turn (match_state (g.B.Book.queues c.trading.book) c.trading.tape c.trading.session c.trading.incoming) (match_state (g.B.Book.queues c.rest_or_cancel-then-not-may_trade_at.new.book) c.rest_or_cancel-then-not-may_trade_at.new.tape c.trading.session None)
beyond_limit g c =
    turn_beyond_limit (g.B.Book.queues c.trading.book) c.trading.tape c.trading.session c.trading.incoming c.in-Some.order c.opposite.result c.first_order.result _
    c.in-Some.is c.opposite.ensures c.first_order.ensures c.in-Some-first_order.first c.in-Some-first_order.is c.if-not-may_trade_at.ensures (c.rest_or_cancel-then-not-may_trade_at.ensures c.trading.session)

pub trading-smaller-then-not-may_trade_at : goal.trading-smaller-then-not-may_trade_at
trading-smaller-then-not-may_trade_at g c = (beyond_limit g c).weight_falls

pub trading-preserved-then-not-may_trade_at : goal.trading-preserved-then-not-may_trade_at
trading-preserved-then-not-may_trade_at g c = on_the_way_after_turn _ _ _ c.trading.invariant (beyond_limit g c)

-- the first opposite order is of the same investor, and the incoming order is cancelled
own_investor : (g : given.Over) (c : goal.After-write g) → Turn (match_state (g.B.Book.queues c.trading.book) c.trading.tape c.trading.session c.trading.incoming) (match_state (g.B.Book.queues c.trading.book) c.write.new.self c.trading.session None)
own_investor g c =
    let on : Log → MatchState = λ r. record { queues = g.B.Book.queues c.trading.book; incoming = None; tape = r; session = c.trading.session } in
    turn_own_investor (g.B.Book.queues c.trading.book) c.trading.tape c.trading.session c.trading.incoming c.in-Some.order c.opposite.result c.first_order.result _
    c.in-Some.is c.opposite.ensures c.first_order.ensures c.in-Some-first_order.first c.in-Some-first_order.is c.if-not-may_trade_at.ensures c.if-has_investor_of.ensures (ap on (c.write.ensures ∙ ap (λ (l : Line). line_added l c.trading.tape) c.cancelled.ensures))

pub stops-smaller-then-has_investor_of : goal.stops-smaller-then-has_investor_of
stops-smaller-then-has_investor_of g c = weight_falls_on_the_way _ _ _ c.trading.invariant (own_investor g c)

pub stops-preserved-then-has_investor_of : goal.stops-preserved-then-has_investor_of
stops-preserved-then-has_investor_of g c = on_the_way_after_both _ _ _ _ c.stops.invariant c.trading.invariant (own_investor g c)

-- the incoming order trades with the first opposite one
one_trade : (g : given.Over) (c : goal.After-trade-incoming g) → Turn (match_state (g.B.Book.queues c.trading.book) c.trading.tape c.trading.session c.trading.incoming) (match_state (g.B.Book.queues c.trade-incoming.new.book) c.trade-incoming.new.tape c.trade-incoming.new.session c.trade-incoming.result)
one_trade g c =
    turn_trade (g.B.Book.queues c.trading.book) c.trading.tape c.trading.session c.trading.incoming c.in-Some.order c.opposite.result c.first_order.result _
    c.in-Some.is c.opposite.ensures c.first_order.ensures c.in-Some-first_order.first c.in-Some-first_order.is c.if-not-may_trade_at.ensures c.if-has_investor_of.ensures c.trade-incoming.ensures

pub trading-smaller : goal.trading-smaller
trading-smaller g c = (one_trade g c).weight_falls

pub trading-preserved : goal.trading-preserved
trading-preserved g c = on_the_way_after_turn _ _ _ c.trading.invariant (one_trade g c)

-- the next ripe stop is triggered
one_trigger : (g : given.Over) (c : goal.After-trigger_stop g) → Turn (match_state (g.B.Book.queues c.trading.book) c.trading.tape c.trading.session c.trading.incoming) (match_state (g.B.Book.queues c.trigger_stop.new.book) c.trigger_stop.new.tape c.trigger_stop.new.session (Some c.trigger_stop.result))
one_trigger g c =
    turn_trigger (g.B.Book.queues c.trading.book) c.trading.tape c.trading.session c.trading.incoming c.next_ripe.result c.in-Some-next_ripe.ripe _
    c.in_default.is c.next_ripe.ensures c.in-Some-next_ripe.is c.trigger_stop.ensures

pub stops-smaller : goal.stops-smaller
stops-smaller g c = weight_falls_on_the_way _ _ _ c.trading.invariant (one_trigger g c)

pub stops-preserved : goal.stops-preserved
stops-preserved g c = on_the_way_after_both _ _ _ _ c.stops.invariant c.trading.invariant (one_trigger g c)

-- no order is incoming and no stop is ripe: the match state is at rest
pub returns-in_default-next_ripe : goal.returns-in_default-next_ripe
returns-in_default-next_ripe g c =
    rest_without_ripe (g.B.Book.queues c.trading.book) c.trading.tape c.trading.session c.trading.incoming c.next_ripe.result c.in_default.is c.next_ripe.ensures c.in_default-next_ripe.is
    ∙ c.trading.invariant.same_end ∙ c.stops.invariant.same_end
