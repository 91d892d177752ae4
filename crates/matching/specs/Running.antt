-- What happens next on a match state, until nothing does.
use Rattle.std.specs.Prelude.{Ok, Err, ℕ, zero, suc, ◌+◌, ◌-◌, ◌*◌, ◌/◌, Bool, false, List, [], ◌∷◌, length, Some, None, Option, nat_lt, if◌then◌else◌}
use Rattle.orders.specs.declared.side.Side.{Side}
use Rattle.orders.specs.declared.side.Side.TheVariants.{Buy, Sell}
use Rattle.orders.specs.declared.price.Price.{Price}
use Rattle.orders.specs.declared.order.Order.{Order}
use Rattle.orders.specs.declared.order.Stop.{Stop}
use Rattle.orders.specs.Sides.{opposite, is_immediate}
use Rattle.orders.specs.Lots.{within_limit, same_investor}
use Rattle.books.specs.declared.queue.Queue.TheVariants.{Orders, Stops}
use Rattle.books.specs.declared.queue.Record.TheVariants.{Standing}
use Rattle.books.specs.Model.{Queues, look_at, standing_order, waiting_stop, put_answer, PutAnswer}
use Rattle.tapes.specs.declared.cause.Cause.TheVariants.{Leftover, OwnInvestor, NotPut}
use Rattle.matching.specs.Model.{MatchState, Event, cancels_incoming, trades, rests, triggers, apply}

abbrev pub first_order : Side → Queues → Option Order
first_order side queues = standing_order (look_at (Orders side) 0 queues)

abbrev pub first_stop : Side → Queues → Option Stop
first_stop side queues = waiting_stop (look_at (Stops side) 0 queues)

-- an order that may stand joins its queue, or is cancelled where put refuses it (rules 11)
abbrev pub rests_or_cancels : PutAnswer → Order → Event
rests_or_cancels (Ok _) order = rests order
rests_or_cancels (Err _) order = cancels_incoming NotPut order

-- the incoming order trades no more: an IOC leftover is cancelled, any other stands (rules 11)
abbrev pub leftover : Order → Queues → Event
leftover incoming queues =
    if is_immediate incoming.validity
    then cancels_incoming Leftover incoming
    else rests_or_cancels (put_answer (Standing incoming) queues) incoming

-- within its limit the incoming order trades with the first opposite one, or is cancelled where the
-- two have one investor (rules 10)
abbrev pub meets : Order → Order → Event
meets incoming resting =
    if same_investor incoming resting
    then cancels_incoming OwnInvestor incoming
    else trades incoming resting

-- what the incoming order does, given the first opposite order (rules 10, 11)
abbrev pub incoming_event : Order → Option Order → Queues → Event
incoming_event incoming None queues = leftover incoming queues
incoming_event incoming (Some resting) queues =
    if within_limit incoming.side incoming.price resting.price
    then meets incoming resting
    else leftover incoming queues

-- a buy stop is ripe when its trigger is at or below the last price, a sell stop when it is at or
-- above it; without a last price none is (rules 12)
abbrev pub ripe : Side → Option Price → Price → Bool
ripe side None trigger = false
ripe side (Some last) trigger = within_limit side last trigger

abbrev pub if_ripe : Side → Option Price → Option Stop → Option Stop
if_ripe side last None = None
if_ripe side last (Some stop) = if ripe side last stop.trigger then Some stop else None

-- of a buy stop and a sell stop, the one with the lower turn (rules 12)
abbrev pub lower_turn : Option Stop → Option Stop → Option (Side × Stop)
lower_turn None None = None
lower_turn (Some buy) None = Some (Buy, buy)
lower_turn None (Some sell) = Some (Sell, sell)
lower_turn (Some buy) (Some sell) =
    if nat_lt sell.order.turn buy.order.turn then Some (Sell, sell) else Some (Buy, buy)

-- the stop that is triggered next, if one is ripe (rules 12)
abbrev pub next_stop : Option Price → Queues → Option (Side × Stop)
next_stop last queues =
    lower_turn
    (if_ripe Buy last (first_stop Buy queues))
    (if_ripe Sell last (first_stop Sell queues))

abbrev pub trigger_event : Option (Side × Stop) → Option Event
trigger_event None = None
trigger_event (Some ripe_stop) = Some (triggers ripe_stop.0 ripe_stop.1)

abbrev pub first_opposite : Order → MatchState → Option Order
first_opposite incoming state = first_order (opposite incoming.side) state.queues

-- the event of the incoming order; without one, of the stop that is triggered next (rules 10, 12)
abbrev pub next_given : Option Order → MatchState → Option Event
next_given (Some incoming) state =
    Some (incoming_event incoming (first_opposite incoming state) state.queues)
next_given None state = trigger_event (next_stop state.session.last_price state.queues)

-- the event that happens next, if any
abbrev pub next_event : MatchState → Option Event
next_event state = next_given state.incoming state

-- the match state goes on with an event, or stays as it is without one
abbrev pub go_on_with : Option Event → (Event → MatchState) → MatchState → MatchState
go_on_with None next state = state
go_on_with (Some event) next state = next event

-- at most so many events, one after another
unfoldable pub run_events : ℕ → MatchState → MatchState
run_events zero state = state
run_events (suc most) state =
    go_on_with (next_event state) (λ event. run_events most (apply event state)) state

-- the weight of a match state: a bound on the events that can still follow, which each event lowers

abbrev pub total : {X : Type 0} → (X → ℕ) → List X → ℕ
total f [] = 0
total f (x ∷ l) = f x + total f l

-- how many parts hidden lots are shown in, at the disclosed size (rules 3)
abbrev pub hidden_parts : ℕ → ℕ → ℕ
hidden_parts hidden disclosed = (hidden + (disclosed - 1)) / disclosed

-- the parts that an order shows one after another: the one shown, and the hidden ones (rules 3)
unfoldable pub parts : Order → ℕ
parts order = 1 + hidden_parts (order.open_lots - order.shown) order.disclosed

-- what an incoming order weighs: an event that ends it, and the 16 parts that it may stand with
abbrev pub incoming_order_weight : ℕ
incoming_order_weight = 17

-- what a waiting stop weighs: its trigger, and an incoming order
abbrev pub waiting_stop_weight : ℕ
waiting_stop_weight = 18

abbrev pub incoming_weight : Option Order → ℕ
incoming_weight None = 0
incoming_weight (Some incoming) = incoming_order_weight

-- a standing order weighs its parts
unfoldable pub queues_weight : Queues → ℕ
queues_weight queues =
    total parts queues.stands.buy + total parts queues.stands.sell
    + waiting_stop_weight * (length queues.waits.buy + length queues.waits.sell)

abbrev pub weight : MatchState → ℕ
weight state = queues_weight state.queues + incoming_weight state.incoming

-- the match state when nothing happens next
unfoldable pub run_to_rest : MatchState → MatchState
run_to_rest state = run_events (weight state) state
