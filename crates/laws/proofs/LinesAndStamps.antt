-- An event that has room writes its lines, and draws its stamps.
use Rattle.std.proofs.Common.{◌≡◌, ℕ, suc, ◌+◌, ◌<◌, ◌≤◌, ltb, List, ◌∷◌, ◌++◌, length, None, refl, ap, ◌∙◌, arith}
use Rattle.std.proofs.lemmas.Bool.{cond-true, lt-ltb}
use Rattle.books.specs.Model.{order_of_record}
use Rattle.tapes.specs.declared.line.Line.{Line}
use Rattle.tapes.specs.declared.line.Line.TheVariants.{Accepted, Cancelled}
use Rattle.tapes.specs.declared.cause.Cause.TheVariants.{NoOpposite}
use Rattle.tapes.specs.Logs.{Log, line_added}
use Rattle.matching.specs.declared.session.TheConstants.{STAMPS_END}
use Rattle.matching.specs.declared.session.Session.{Session}
use Rattle.matching.specs.Sessions.{stamp_after}
use Rattle.laws.specs.WithinRoom.{event_lines, outcome_stamps, event_stamps}
use Rattle.matching.specs.Model.{MatchState, Event, accepts, accepts_stop, accepts_and_cancels, accepts_unmatched, cancels_incoming, trades, rests, triggers, cancels_resting, amends, requeues, RestingOutcome, refilled, outcome, trade_lots, session_after_trade, apply, line_A, line_R, line_S, line_C, line_T}

-- the lines of the tape, the latest first
abbrev pub tape : MatchState → List Line
tape f = f.tape.lines

-- a free line for each that the event writes, and an undrawn stamp if it draws one
pub record RoomFor (e : Event) (f : MatchState) : Type 0 where
  pub free_lines : length (event_lines e) + length (tape f) ≤ f.tape.limit
  pub free_stamps : 1 ≤ event_stamps e → f.session.next_stamp < STAMPS_END

one_line : (l : Line) (r : Log) → length r.lines < r.limit → (line_added l r).lines ≡ l ∷ r.lines
one_line l r h = cond-true (ltb (length r.lines) r.limit) (l ∷ r.lines) r.lines (lt-ltb (length r.lines) r.limit h)

two_lines : (l k : Line) (r : Log) → suc (length r.lines) < r.limit → (line_added l (line_added k r)).lines ≡ l ∷ k ∷ r.lines
two_lines l k r h =
    let e : (line_added k r).lines ≡ k ∷ r.lines = one_line k r (omega arith) in
    one_line l (line_added k r) (rw e (omega arith)) ∙ ap (λ m. l ∷ m) e

pub tape_is : (e : Event) (f : MatchState) → RoomFor e f → tape (apply e f) ≡ event_lines e ++ tape f
tape_is (accepts o) f h = one_line (line_A o) f.tape (omega (arith, h.free_lines))
tape_is (accepts_stop x) f h = one_line (line_A x.order) f.tape (omega (arith, h.free_lines))
tape_is (accepts_and_cancels c o) f h = two_lines (line_C c o) (line_A o) f.tape (omega (arith, h.free_lines))
tape_is (accepts_unmatched n k) f h = two_lines (Cancelled n None k NoOpposite) (Accepted n None k) f.tape (omega (arith, h.free_lines))
tape_is (cancels_incoming c o) f h = one_line (line_C c o) f.tape (omega (arith, h.free_lines))
tape_is (trades o r) f h = one_line (line_T (trade_lots o r) o r) f.tape (omega (arith, h.free_lines))
tape_is (rests o) f h = refl
tape_is (triggers s x) f h = one_line (line_S x.order) f.tape (omega (arith, h.free_lines))
tape_is (cancels_resting c n i r) f h = one_line (line_C c (order_of_record r)) f.tape (omega (arith, h.free_lines))
tape_is (amends i o) f h = one_line (line_R o) f.tape (omega (arith, h.free_lines))
tape_is (requeues s i o) f h = one_line (line_R o) f.tape (omega (arith, h.free_lines))

one_stamp : (n : ℕ) → n < STAMPS_END → stamp_after n ≡ n + 1
one_stamp n h = cond-true (ltb n STAMPS_END) (n + 1) n (lt-ltb n STAMPS_END h)

drawn_is : (k : RestingOutcome) (c : Session) → (1 ≤ outcome_stamps k → c.next_stamp < STAMPS_END) → (session_after_trade k c).next_stamp ≡ c.next_stamp + outcome_stamps k
drawn_is refilled c h = one_stamp c.next_stamp (h (omega arith))
drawn_is _ c h = omega arith

pub stamp_is : (e : Event) (f : MatchState) → RoomFor e f → (apply e f).session.next_stamp ≡ f.session.next_stamp + event_stamps e
stamp_is (cancels_incoming c o) f h = omega arith
stamp_is (trades o r) f h = drawn_is (outcome (trade_lots o r) r) f.session h.free_stamps
stamp_is (rests o) f h = omega arith
stamp_is (cancels_resting c n i r) f h = omega arith
stamp_is (amends i o) f h = omega arith
stamp_is _ f h = one_stamp f.session.next_stamp (h.free_stamps (omega arith))

pub limit_is : (e : Event) (f : MatchState) → (apply e f).tape.limit ≡ f.tape.limit
limit_is (accepts o) f = refl
limit_is _ f = refl
