-- Inside a step neither lines nor stamps run out (rules 7): each event writes its lines in full and
-- draws its stamps, a put is refused only where its queue is full, and every order is within its
-- bounds.
--   Trace   events, one after another, from the match state before a step to that after it
use Rattle.std.specs.Prelude.{◌≡◌, ℕ, ◌+◌, ◌-◌, ◌<◌, min, true, false, List, [], ◌∷◌, ◌++◌, None, Ok, Err}
use Rattle.orders.specs.declared.price.Price.{Price}
use Rattle.orders.specs.declared.order.Order.{Order}
use Rattle.orders.specs.declared.order.Stop.{Stop}
use Rattle.orders.specs.Bounds.{keeps_bounds}
use Rattle.orders.specs.Sides.{opposite}
use Rattle.orders.specs.Lots.{showing, with_lots, order_refilled}
use Rattle.books.specs.declared.queue.Queue.TheVariants.{Orders}
use Rattle.books.specs.declared.queue.Record.TheVariants.{Standing, Waiting}
use Rattle.books.specs.declared.queue.PutError.TheVariants.{Full}
use Rattle.books.specs.Model.{Queues, put_answer, taken, order_of_record}
use Rattle.tapes.specs.declared.cause.Cause.{Cause}
use Rattle.tapes.specs.declared.cause.Cause.TheVariants.{NotPut, NoOpposite}
use Rattle.tapes.specs.declared.line.Line.{Line}
use Rattle.tapes.specs.declared.line.Line.TheVariants.{Accepted, Cancelled}
use Rattle.forms.specs.declared.form.EntryForm.{EntryForm}
use Rattle.forms.specs.declared.form.ChangeForm.{ChangeForm}
use Rattle.forms.specs.declared.form.Form.{Form}
use Rattle.matching.specs.declared.new_order.NewOrder.{NewOrder}
use Rattle.matching.specs.declared.amendment.Amendment.{Amendment}
use Rattle.matching.specs.Model.{MatchState, Event, accepts, accepts_stop, accepts_and_cancels, accepts_unmatched, cancels_incoming, trades, rests, triggers, cancels_resting, amends, requeues, RestingOutcome, filled, refilled, reduced, outcome, trade_lots, apply, line_A, line_R, line_S, line_C, line_T}
use Rattle.matching.specs.Entering.{entered_order}
use Rattle.matching.specs.Changing.{new_quantity, new_disclosed, new_open_lots, loses_turn, amended_order, requeued_order}
use Rattle.validation.specs.Entries.{validate_entry}
use Rattle.venue.specs.declared.plan.AmendPlan.{AmendPlan}
use Rattle.venue.specs.Steps.{change_answer}
use Rattle.venue.specs.Days.{State, between_steps, set_up, step}
use Rattle.laws.specs.Runs.{session_of, after}

-- the lines of an event, the latest first (rules 16)
abbrev pub event_lines : Event → List Line
event_lines (accepts order) = line_A order ∷ []
event_lines (accepts_stop stop) = line_A stop.order ∷ []
event_lines (accepts_and_cancels cause order) = line_C cause order ∷ line_A order ∷ []
event_lines (accepts_unmatched number quantity) =
    Cancelled number None quantity NoOpposite ∷ Accepted number None quantity ∷ []
event_lines (cancels_incoming cause order) = line_C cause order ∷ []
event_lines (trades incoming resting) = line_T (trade_lots incoming resting) incoming resting ∷ []
event_lines (rests order) = []
event_lines (triggers side stop) = line_S stop.order ∷ []
event_lines (cancels_resting cause queue place stored) = line_C cause (order_of_record stored) ∷ []
event_lines (amends place order) = line_R order ∷ []
event_lines (requeues side place order) = line_R order ∷ []

-- a resting order that is refilled draws its new turn (rules 10)
abbrev pub outcome_stamps : RestingOutcome → ℕ
outcome_stamps refilled = 1
outcome_stamps _ = 0

-- how many stamps an event draws (rules 2)
abbrev pub event_stamps : Event → ℕ
event_stamps (trades incoming resting) =
    outcome_stamps (outcome (trade_lots incoming resting) resting)
event_stamps (cancels_incoming cause order) = 0
event_stamps (rests order) = 0
event_stamps (cancels_resting cause queue place stored) = 0
event_stamps (amends place order) = 0
event_stamps _ = 1

-- the book takes an order that is refilled, and what comes to stand or wait; what it does not take
-- finds its queue full, never its number used (rules 5)

abbrev pub outcome_put : RestingOutcome → (lots stamp : ℕ) → Order → Queues → Type 0
outcome_put refilled lots stamp resting queues =
    put_answer (Standing (order_refilled stamp lots resting)) queues ≡ Ok tt
outcome_put _ lots stamp resting queues = Unit {0}

-- a claim about a put, which cause 5 alone makes (numbers 7)
abbrev pub IfNotPut : Cause → Type 0 → Type 0
IfNotPut NotPut claim = claim
IfNotPut _ claim = Unit {0}

abbrev pub PutDone : Event → MatchState → Type 0
PutDone (accepts_stop stop) state = put_answer (Waiting stop) state.queues ≡ Ok tt
PutDone (accepts_and_cancels cause order) state = IfNotPut cause
    ((stop : Stop) × (stop.order ≡ order) × (put_answer (Waiting stop) state.queues ≡ Err Full))
PutDone (cancels_incoming cause order) state =
    IfNotPut cause (put_answer (Standing order) state.queues ≡ Err Full)
PutDone (trades incoming resting) state =
    outcome_put (outcome (trade_lots incoming resting) resting) (trade_lots incoming resting)
    state.session.next_stamp resting (taken (Orders (opposite incoming.side)) 0 state.queues)
PutDone (rests order) state = put_answer (Standing order) state.queues ≡ Ok tt
PutDone _ state = Unit {0}

-- the rows that a trade and a trigger build keep the bounds (rules 3)

abbrev pub outcome_in_bounds : RestingOutcome → (lots stamp : ℕ) → Order → Type 0
outcome_in_bounds filled lots stamp resting = Unit {0}
outcome_in_bounds refilled lots stamp resting = keeps_bounds
    (with_lots stamp (resting.open_lots - lots)
    (showing resting.disclosed (resting.open_lots - lots)) resting) ≡ true
outcome_in_bounds reduced lots stamp resting =
    keeps_bounds (with_lots resting.turn (resting.open_lots - lots) (resting.shown - lots) resting)
    ≡ true

abbrev pub incoming_in_bounds : (lots : ℕ) → Order → Type 0
incoming_in_bounds lots incoming = lots < incoming.open_lots →
    keeps_bounds
    (with_lots incoming.turn (incoming.open_lots - lots)
    (showing incoming.disclosed (incoming.open_lots - lots)) incoming)
    ≡ true

abbrev pub EventInBounds : Event → MatchState → Type 0
EventInBounds (trades incoming resting) state =
    incoming_in_bounds (trade_lots incoming resting) incoming
    × outcome_in_bounds (outcome (trade_lots incoming resting) resting)
    (trade_lots incoming resting) state.session.next_stamp resting
EventInBounds (triggers side stop) state = keeps_bounds
    (with_lots state.session.next_stamp (stop.order.open_lots - 0)
    (showing stop.order.disclosed (stop.order.open_lots - 0)) stop.order) ≡ true
EventInBounds _ state = Unit {0}

-- an event on a match state, all within room
pub record WithinRoom (event : Event) (state : MatchState) : Type 0 where
  pub lines_written : (apply event state).tape.lines ≡ event_lines event ++ state.tape.lines
  pub stamps_drawn : (apply event state).session.next_stamp
      ≡ state.session.next_stamp + event_stamps event
  pub put_done : PutDone event state
  pub in_bounds : EventInBounds event state

-- events from one match state to another, each within room
pub data Trace : MatchState → MatchState → Type 0 where
  ended : {f : MatchState} → Trace f f
  then : {f g : MatchState} (event : Event) → WithinRoom event f →
      Trace (apply event f) g → Trace f g

-- the match state between steps
abbrev pub state_between_steps : State → MatchState
state_between_steps state = between_steps state.queues state.tape (session_of state.day)

-- one more step, after any setting up and any steps
abbrev pub AlwaysWithinRoom : Type 0
AlwaysWithinRoom =
    (day stamp : ℕ) (q : Queues) (limit : ℕ) (forms : List Form) (form : Form) →
    (let state : State = after forms (set_up day stamp q limit) in
    Trace (state_between_steps state) (state_between_steps (step form state)))

-- an order that is entered is as it was asked (rules 8)

abbrev pub AsRequested : NewOrder → Order → Type 0
AsRequested asked order =
    (order.quantity ≡ asked.quantity) × (order.open_lots ≡ asked.quantity)
    × (order.shown ≡ showing asked.disclosed asked.quantity) × (order.disclosed ≡ asked.disclosed)

abbrev pub EnteredAsRequested : Type 0
EnteredAsRequested =
    (form : EntryForm) (asked : NewOrder) → validate_entry form ≡ Ok asked →
    (price : Price) (stamp : ℕ) → AsRequested asked (entered_order asked price stamp)

-- an order that is changed is as the change asks, whether it loses its turn or keeps it (rules 13)

abbrev pub AsChanged : Amendment → Order → (shown : ℕ) → (changed : Order) → Type 0
AsChanged asked order shown changed =
    (changed.quantity ≡ new_quantity asked order) × (changed.open_lots ≡ new_open_lots asked order)
    × (changed.shown ≡ shown) × (changed.disclosed ≡ new_disclosed asked order)

abbrev pub ChangedAsRequested : Type 0
ChangedAsRequested =
    (day stamp : ℕ) (q : Queues) (limit : ℕ) (forms : List Form) (form : ChangeForm)
    (plan : AmendPlan) →
    change_answer form (state_between_steps (after forms (set_up day stamp q limit))) ≡ Ok plan →
    (let asked : Amendment = plan.change in
    let order : Order = plan.order in
    let open_lots : ℕ = new_open_lots asked order in
    ((turn : ℕ) →
    AsChanged asked order (showing (new_disclosed asked order) open_lots)
    (requeued_order turn asked order))
    × (loses_turn asked order ≡ false →
    AsChanged asked order (min order.shown open_lots) (amended_order asked order)))
