-- The state of a venue, and what each step answers and leaves.
--   step        entry, change, cancel, mass cancel, closing or opening (rules 1)
--   day         whether the day is open or closed, its number, and the session (rules 1)
--   setting up  clears book and tape and opens the first day (rules 6)
use Rattle.std.specs.Prelude.{max, ◌≡◌, ℕ, None, Ok, Err, Result}
use Rattle.books.specs.Model.{Queues, cleared}
use Rattle.tapes.specs.declared.tape.Tape.{Tape}
use Rattle.tapes.specs.Logs.{Log, empty_log}
use Rattle.forms.specs.declared.form.OpeningForm.{OpeningForm}
use Rattle.forms.specs.declared.form.Form.{Form}
use Rattle.forms.specs.declared.form.Form.TheVariants.{Entry, Change, Cancel, MassCancel, Closing, Opening}
use Rattle.forms.specs.declared.refusal.Refusal.{Refusal}
use Rattle.forms.specs.declared.refusal.Refusal.TheVariants.{WrongDay}
use Rattle.matching.specs.declared.session.Session.{Session}
use Rattle.matching.specs.Sessions.{session_from}
use Rattle.matching.specs.Model.{MatchState}
use Rattle.matching.specs.MatchStates.{match_state}
use Rattle.forms.specs.Results.{and_then}
use Rattle.validation.specs.Entries.{validate_entry}
use Rattle.validation.specs.Changes.{validate_change}
use Rattle.validation.specs.Removals.{validate_cancel, validate_mass_cancel, validate_opening}
use Rattle.venue.specs.declared.day.OpenDay.{OpenDay}
use Rattle.venue.specs.declared.day.ClosedDay.{ClosedDay}
use Rattle.venue.specs.declared.day.Day.{Day}
use Rattle.venue.specs.declared.day.Day.TheVariants.{Open, Closed}
use Rattle.venue.specs.Rooms.{lines_free}
use Rattle.venue.specs.Steps.{answered, entry_answer, after_entry, change_answer, after_change_step, cancel_answer, after_cancel, mass_cancel_answer, after_mass_cancel, cancel_day_orders, opening_result}

pub record State : Type 0 where
  pub queues : Queues
  pub tape : Log
  pub day : Day

-- the state of a book, a tape and a day
abbrev pub state : Queues → Tape → Day → State
state queues tape day = record { queues = queues; tape = tape; day = day }

-- between steps no order is incoming
abbrev pub between_steps : Queues → Log → Session → MatchState
between_steps queues tape session = match_state queues tape session None

-- the match state on an open day of a number
abbrev pub opened : ℕ → MatchState → State
opened number current = record {
  queues = current.queues;
  tape = current.tape;
  day = Open (record { day = number; session = current.session });
}

-- the match state on a closed day of a number
abbrev pub closed : ℕ → MatchState → State
closed number current = record {
  queues = current.queues;
  tape = current.tape;
  day = Closed (record { day = number; session = current.session });
}

abbrev pub at_least_1 : ℕ → ℕ
at_least_1 n = max n 1

-- book and tape are cleared, and the day is open; a day or a stamp of 0 counts as 1 (rules 6)
abbrev pub set_up : (day stamp : ℕ) → Queues → ℕ → State
set_up day stamp queues limit =
    opened (at_least_1 day) (between_steps (cleared queues) (empty_log limit) (session_from stamp))

-- a closing removes Day orders and closes the day; a refused one leaves it open (rules 7, 15)
abbrev pub after_closing : Result (Unit {0}) Refusal → ℕ → MatchState → State
after_closing (Ok _) number current = closed number (cancel_day_orders current)
after_closing (Err _) number current = opened number current

-- an opening opens the day that it names; a refused one leaves the day closed (rules 7, 15)
abbrev pub after_opening : Result ℕ Refusal → ℕ → MatchState → State
after_opening (Ok next) number current = opened next current
after_opening (Err _) number current = closed number current

-- cells are checked before the day (numbers 5)
abbrev pub wrong_day : {A : Type 0} → Result A Refusal → Result (Unit {0}) Refusal
wrong_day validated = and_then validated (λ _. Err WrongDay)

-- what a form is answered on an open day (rules 15)
abbrev pub answer_open : Form → MatchState → Result (Unit {0}) Refusal
answer_open (Entry form) current = answered (entry_answer form current)
answer_open (Change form) current = answered (change_answer form current)
answer_open (Cancel form) current = answered (cancel_answer form current.queues current.tape)
answer_open (MassCancel form) current =
    answered (mass_cancel_answer form current.queues current.tape)
answer_open Closing current = lines_free current.queues current.tape
answer_open (Opening form) current = wrong_day (validate_opening form)

-- what any form but an opening is answered on a closed day (rules 15)
abbrev pub closed_refusal : Form → Result (Unit {0}) Refusal
closed_refusal (Entry form) = wrong_day (validate_entry form)
closed_refusal (Change form) = wrong_day (validate_change form)
closed_refusal (Cancel form) = wrong_day (validate_cancel form)
closed_refusal (MassCancel form) = wrong_day (validate_mass_cancel form)
closed_refusal _ = Err WrongDay

-- what a form is answered on a closed day of a number (rules 15)
abbrev pub answer_closed : Form → ℕ → MatchState → Result (Unit {0}) Refusal
answer_closed (Opening form) number current =
    answered (opening_result form number current.queues current.tape)
answer_closed form number current = closed_refusal form

-- what a form leaves on an open day of a number
abbrev pub step_open : Form → ℕ → MatchState → State
step_open (Entry form) number current = opened number (after_entry form current)
step_open (Change form) number current = opened number (after_change_step form current)
step_open (Cancel form) number current = opened number (after_cancel form current)
step_open (MassCancel form) number current = opened number (after_mass_cancel form current)
step_open Closing number current =
    after_closing (lines_free current.queues current.tape) number current
step_open (Opening form) number current = opened number current

-- what a form leaves on a closed day of a number
abbrev pub step_closed : Form → ℕ → MatchState → State
step_closed (Opening form) number current =
    after_opening (opening_result form number current.queues current.tape) number current
step_closed _ number current = closed number current

abbrev pub answer_on : Day → Form → Queues → Log → Result (Unit {0}) Refusal
answer_on (Open day) form queues tape =
    answer_open form (between_steps queues tape day.session)
answer_on (Closed day) form queues tape =
    answer_closed form day.day (between_steps queues tape day.session)

abbrev pub step_on : Day → Form → Queues → Log → State
step_on (Open day) form queues tape =
    step_open form day.day (between_steps queues tape day.session)
step_on (Closed day) form queues tape =
    step_closed form day.day (between_steps queues tape day.session)

-- what a form is answered: accepted, or why it is refused
abbrev pub answer : Form → State → Result (Unit {0}) Refusal
answer form before = answer_on before.day form before.queues before.tape

-- the state that a form leaves
abbrev pub step : Form → State → State
step form before = step_on before.day form before.queues before.tape

-- the day after a closing and its answer: the closed day, or the open one with the refusal
abbrev pub closing_answer : Result ClosedDay (OpenDay × Refusal) → Day × Result (Unit {0}) Refusal
closing_answer (Ok day) = (Closed day, Ok tt)
closing_answer (Err back) = (Open back.0, Err back.1)

-- what closing an open day returns and leaves
pub record Closes
    (day : OpenDay) (queues : Queues) (tape : Tape)
    (result : Result ClosedDay (OpenDay × Refusal)) (queues' : Queues) (tape' : Tape) : Type 0 where
  pub answer_is : (closing_answer result).1 ≡ answer Closing (state queues tape (Open day))
  pub state_is : state queues' tape' (closing_answer result).0
      ≡ step Closing (state queues tape (Open day))

-- the day after an opening and its answer: the open day, or the closed one with the refusal
abbrev pub opening_answer : Result OpenDay (ClosedDay × Refusal) → Day × Result (Unit {0}) Refusal
opening_answer (Ok day) = (Open day, Ok tt)
opening_answer (Err back) = (Closed back.0, Err back.1)

-- what opening a closed day returns; book and tape stay
pub record Opens
    (form : OpeningForm) (day : ClosedDay) (queues : Queues) (tape : Tape)
    (result : Result OpenDay (ClosedDay × Refusal)) : Type 0 where
  pub answer_is : (opening_answer result).1 ≡ answer (Opening form) (state queues tape (Closed day))
  pub state_is : state queues tape (opening_answer result).0
      ≡ step (Opening form) (state queues tape (Closed day))
