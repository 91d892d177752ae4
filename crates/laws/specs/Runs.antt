-- What holds of every run of a venue: after setting up with any day and first stamp, and after
-- every step of any list.
--   Throughout   at the start and after each step
--   Lawful       every lot is accounted for, no bid meets an offer, no stop is ripe
--   Fair         no trade of an accepted step passes a limit or a turn, by the tally
use Rattle.std.specs.Prelude.{◌≡◌, ℕ, ◌-◌, List, [], ◌∷◌, length, take, Ok, Err, Result}
use Rattle.books.specs.Model.{Queues}
use Rattle.tapes.specs.declared.line.Line.{Line}
use Rattle.forms.specs.declared.form.Form.{Form}
use Rattle.forms.specs.declared.form.Form.TheVariants.{Entry, Change}
use Rattle.forms.specs.declared.refusal.Refusal.{Refusal}
use Rattle.matching.specs.declared.new_order.NewOrder.{NewOrder}
use Rattle.matching.specs.declared.session.Session.{Session}
use Rattle.validation.specs.declared.changes.AmendRequest.{AmendRequest}
use Rattle.validation.specs.Entries.{validate_entry}
use Rattle.validation.specs.Changes.{validate_change}
use Rattle.venue.specs.declared.day.Day.{Day}
use Rattle.venue.specs.declared.day.Day.TheVariants.{Open, Closed}
use Rattle.venue.specs.Days.{State, at_least_1, set_up, answer, step}
use Rattle.laws.specs.Accounts.{Balanced}
use Rattle.laws.specs.Quiescence.{Uncrossed, Unripe}
use Rattle.laws.specs.Tally.{Tally, Request, entry, change, removal, starting, noted, incoming_rested}
use Rattle.laws.specs.Fair.{FairLines}

-- the next stamp and the last price, whether the day is open or closed
abbrev pub session_of : Day → Session
session_of (Open day) = day.session
session_of (Closed day) = day.session

-- the laws of a state: every lot is accounted for, no bid meets an offer, no stop is ripe
pub record Lawful (state : State) : Type 0 where
  pub balanced : Balanced state.tape.lines state.queues
  pub uncrossed : Uncrossed state.queues.stands
  pub unripe : Unripe (session_of state.day).last_price state.queues

-- a claim holds at the start and after each step
abbrev pub Throughout : (State → Type 0) → List Form → State → Type 0
Throughout Claim [] state = Claim state
Throughout Claim (form ∷ forms) state = Claim state × Throughout Claim forms (step form state)

-- whatever the book and the length of the tape
abbrev pub AlwaysLawful : Type 0
AlwaysLawful = (day stamp : ℕ) (q : Queues) (limit : ℕ) (forms : List Form) →
    Throughout Lawful forms (set_up day stamp q limit)

-- what a form asks, as far as the tally needs it

abbrev pub entry_requested : Result NewOrder Refusal → Request
entry_requested (Ok new_order) = entry new_order
entry_requested (Err refusal) = removal

abbrev pub change_requested : Result AmendRequest Refusal → Request
change_requested (Ok amend) = change amend.change
change_requested (Err refusal) = removal

abbrev pub request : Form → Request
request (Entry form) = entry_requested (validate_entry form)
request (Change form) = change_requested (validate_change form)
request _ = removal

-- the lines that a step wrote, the latest first
abbrev pub step_lines : (before : State) → (later : State) → List Line
step_lines before later = take (length later.tape.lines - length before.tape.lines) later.tape.lines

-- the tally notes accepted steps alone; at a step's end the incoming order has come to stand
abbrev pub tally_fed : Result (Unit {0}) Refusal → Request → List Line → Tally → Tally
tally_fed (Ok done) request lines tally = incoming_rested (noted request lines tally)
tally_fed (Err refusal) request lines tally = tally

-- the tally after one more step
abbrev pub tallied : Form → State → Tally → Tally
tallied form state tally =
    tally_fed (answer form state) (request form) (step_lines state (step form state)) tally

-- the lines of each step are fair by the tally before it
abbrev pub FairThroughout : List Form → State → Tally → Type 0
FairThroughout [] state tally = Unit {0}
FairThroughout (form ∷ forms) state tally =
    FairLines (request form) (step_lines state (step form state)) tally
    × FairThroughout forms (step form state) (tallied form state tally)

-- the tally is empty at setting up, and its turns are counted from the first stamp (rules 6)
abbrev pub AlwaysFair : Type 0
AlwaysFair = (day stamp : ℕ) (q : Queues) (limit : ℕ) (forms : List Form) →
    FairThroughout forms (set_up day stamp q limit) (starting (at_least_1 stamp))

-- the state and the tally after a list of steps

abbrev pub after : List Form → State → State
after [] state = state
after (form ∷ forms) state = after forms (step form state)

abbrev pub tally_after : List Form → State → Tally → Tally
tally_after [] state tally = tally
tally_after (form ∷ forms) state tally =
    tally_after forms (step form state) (tallied form state tally)

-- the laws after one more step, whatever setting up and steps led to this state
abbrev pub HoldsAfter : Form → State → Type 0
HoldsAfter form state =
    (day stamp : ℕ) (q : Queues) (limit : ℕ) (forms : List Form) →
    state ≡ after forms (set_up day stamp q limit) →
    Lawful (step form state)
    × FairLines (request form) (step_lines state (step form state))
    (tally_after forms (set_up day stamp q limit) (starting (at_least_1 stamp)))
