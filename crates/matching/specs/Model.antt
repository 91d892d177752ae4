-- The match state, the events that change it, and what each makes of it.
--   match state      the four queues, the incoming order, the tape and the session
--   incoming         the order that trades; it is in no queue meanwhile (rules 1)
--   resting          the first opposite order, which the incoming order meets (rules 10)
--   trade lots       the lots that the two trade (rules 10)
--   resting outcome  what becomes of the resting order: filled, it leaves; refilled, it goes behind
--                    its price with new lots shown; reduced, it stays first (rules 10)
use Rattle.std.specs.Prelude.{ℕ, min, Some, None, Option, ◌==◌, if◌then◌else◌}
use Rattle.orders.specs.declared.side.Side.{Side}
use Rattle.orders.specs.declared.order.Order.{Order}
use Rattle.orders.specs.declared.order.Stop.{Stop}
use Rattle.orders.specs.Sides.{opposite}
use Rattle.orders.specs.Lots.{order_reduced, order_refilled}
use Rattle.books.specs.declared.queue.Queue.{Queue}
use Rattle.books.specs.declared.queue.Queue.TheVariants.{Orders, Stops}
use Rattle.books.specs.declared.queue.Record.{Record}
use Rattle.books.specs.declared.queue.Record.TheVariants.{Standing, Waiting}
use Rattle.books.specs.Model.{Queues, put_answer, after_put, inserted, taken, rewritten, order_of_record}
use Rattle.tapes.specs.declared.cause.Cause.{Cause}
use Rattle.tapes.specs.declared.cause.Cause.TheVariants.{NoOpposite}
use Rattle.tapes.specs.declared.line.Line.{Line}
use Rattle.tapes.specs.declared.line.Line.TheVariants.{Accepted, Replaced, Triggered, Traded, Cancelled}
use Rattle.tapes.specs.Logs.{Log, line_added}
use Rattle.matching.specs.declared.session.Session.{Session}
use Rattle.matching.specs.Sessions.{stamp_drawn, traded_at}

pub record MatchState : Type 0 where
  pub queues : Queues
  pub incoming : Option Order
  pub tape : Log
  pub session : Session

-- the lines of the tape (rules 16)

abbrev pub line_A : Order → Line
line_A order = Accepted order.number (Some order.price) order.quantity

abbrev pub line_R : Order → Line
line_R order = Replaced order.number order.price order.quantity

abbrev pub line_S : Order → Line
line_S order = Triggered order.number order.price order.open_lots

abbrev pub line_C : Cause → Order → Line
line_C cause order = Cancelled order.number (Some order.price) order.open_lots cause

abbrev pub line_T : ℕ → Order → Order → Line
line_T lots incoming resting = Traded incoming.number resting.number resting.price lots

-- a market order without an opposite one is accepted and cancelled without a limit (rules 8)
abbrev pub unmatched_lines : (number quantity : ℕ) → Log → Log
unmatched_lines number quantity tape =
    line_added (Cancelled number None quantity NoOpposite)
    (line_added (Accepted number None quantity) tape)

-- the events

pub data Event : Type 0 where
  -- an order is accepted and becomes the incoming one (rules 8)
  accepts : Order → Event
  -- a stop is accepted and joins its queue (rules 8)
  accepts_stop : Stop → Event
  -- an order or stop is accepted and cancelled whole (rules 8)
  accepts_and_cancels : Cause → Order → Event
  -- a market order is accepted, finds no opposite order and is cancelled (rules 8)
  accepts_unmatched : (number quantity : ℕ) → Event
  -- the incoming order is cancelled (rules 10, 11)
  cancels_incoming : Cause → Order → Event
  -- the incoming order trades with the first opposite one (rules 10)
  trades : (incoming resting : Order) → Event
  -- the incoming order joins its queue (rules 11)
  rests : Order → Event
  -- the first stop of a side leaves its queue and becomes the incoming order (rules 12)
  triggers : Side → Stop → Event
  -- the record at a position of a queue is removed (rules 14, 15)
  cancels_resting : Cause → Queue → ℕ → Record → Event
  -- an order is changed and keeps its position and turn (rules 13)
  amends : ℕ → Order → Event
  -- an order is changed, loses its turn and becomes the incoming one (rules 13)
  requeues : Side → ℕ → Order → Event

pub data RestingOutcome : Type 0 where
  filled refilled reduced : RestingOutcome

-- filled without open lots left, refilled without shown ones (rules 10)
abbrev pub outcome : ℕ → Order → RestingOutcome
outcome lots resting =
    if resting.open_lots == lots then filled
    else if resting.shown == lots then refilled
    else reduced

-- an order is put into its queue again, and is lost where put refuses it (rules 5)
unfoldable pub put_back : Order → Queues → Queues
put_back order queues = after_put (put_answer (Standing order) queues) (Standing order) queues

-- the queues after a trade with the first order of a side (rules 10)
abbrev pub after_trade : RestingOutcome → Side → ℕ → ℕ → Order → Queues → Queues
after_trade filled side lots stamp resting queues = taken (Orders side) 0 queues
after_trade refilled side lots stamp resting queues =
    put_back (order_refilled stamp lots resting) (taken (Orders side) 0 queues)
after_trade reduced side lots stamp resting queues =
    rewritten 0 (Standing (order_reduced lots resting)) queues

-- a refill draws a new turn (rules 2)
abbrev pub session_after_trade : RestingOutcome → Session → Session
session_after_trade filled session = session
session_after_trade refilled session = stamp_drawn session
session_after_trade reduced session = session

-- what a trade leaves of the incoming order: none, where it has no open lots (rules 3, 10)
abbrev pub incoming_left : ℕ → Order → Option Order
incoming_left lots incoming =
    if incoming.open_lots == lots then None else Some (order_refilled incoming.turn lots incoming)

-- the smaller of the incoming order's open lots and the resting order's shown lots (rules 10)
abbrev pub trade_lots : Order → Order → ℕ
trade_lots incoming resting = min incoming.open_lots resting.shown

abbrev pub queues_after_trade : ℕ → Order → Order → MatchState → Queues
queues_after_trade lots incoming resting state =
    after_trade (outcome lots resting) (opposite incoming.side) lots state.session.next_stamp
    resting state.queues

-- the incoming order trades lots with the first opposite one (rules 10)
abbrev pub traded : ℕ → Order → Order → MatchState → MatchState
traded lots incoming resting state = record {
  queues = queues_after_trade lots incoming resting state;
  incoming = incoming_left lots incoming;
  tape = line_added (line_T lots incoming resting) state.tape;
  session = traded_at resting.price (session_after_trade (outcome lots resting) state.session);
}

-- what an event does to the match state: queues, incoming order, tape and session (rules 8 to 15)
abbrev pub apply : Event → MatchState → MatchState
apply (accepts order) state = record state {
  incoming = Some order;
  tape = line_added (line_A order) state.tape;
  session = stamp_drawn state.session;
}
apply (accepts_stop stop) state = record state {
  queues = inserted (Waiting stop) state.queues;
  incoming = None;
  tape = line_added (line_A stop.order) state.tape;
  session = stamp_drawn state.session;
}
apply (accepts_and_cancels cause order) state = record state {
  incoming = None;
  tape = line_added (line_C cause order) (line_added (line_A order) state.tape);
  session = stamp_drawn state.session;
}
apply (accepts_unmatched number quantity) state = record state {
  incoming = None;
  tape = unmatched_lines number quantity state.tape;
  session = stamp_drawn state.session;
}
apply (cancels_incoming cause order) state =
    record state { incoming = None; tape = line_added (line_C cause order) state.tape }
apply (trades incoming resting) state =
    traded (trade_lots incoming resting) incoming resting state
apply (rests order) state =
    record state { queues = inserted (Standing order) state.queues; incoming = None }
apply (triggers side stop) state = record {
  queues = taken (Stops side) 0 state.queues;
  incoming = Some (order_refilled state.session.next_stamp 0 stop.order);
  tape = line_added (line_S stop.order) state.tape;
  session = stamp_drawn state.session;
}
apply (cancels_resting cause queue at resting) state = record state {
  queues = taken queue at state.queues;
  tape = line_added (line_C cause (order_of_record resting)) state.tape;
}
apply (amends at order) state = record state {
  queues = rewritten at (Standing order) state.queues;
  tape = line_added (line_R order) state.tape;
}
apply (requeues side at order) state = record {
  queues = taken (Orders side) at state.queues;
  incoming = Some order;
  tape = line_added (line_R order) state.tape;
  session = stamp_drawn state.session;
}
