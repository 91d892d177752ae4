-- The lines of a step tell what it did: the tally that notes them agrees with the match state, and every trade among them is fair.
use Rattle.std.proofs.Common.{◌≡◌, List, [], ◌∷◌, ◌++◌, Some, None, Option, sym, refl, ap, ◌∙◌, subst, append_assoc}
use Rattle.orders.specs.declared.order.Order.{Order}
use Rattle.tapes.specs.declared.line.Line.{Line}
use Rattle.matching.specs.Model.{MatchState, Event, cancels_incoming, trades, rests, triggers, apply}
use Rattle.matching.specs.Running.{run_to_rest}
use Rattle.laws.specs.Tally.{Tally, Request, incoming_rested, note, noted}
use Rattle.laws.specs.Fair.{FairLines}
use Rattle.laws.specs.WithinRoom.{event_lines}
use Rattle.laws.proofs.LinesAndStamps.{tape, RoomFor, tape_is}
use Rattle.laws.proofs.RunsToRest.{Consistent, consistent_apply, MayRun, RunsTo, at_end, at_next, RoomForRest, run_to_rest_runs}
use Rattle.laws.proofs.TallyAgrees.{TallyAgrees, tally_agrees_trades, tally_agrees_cancels_incoming, tally_agrees_triggers, tally_agrees_rests, tally_agrees_idle}
use Rattle.laws.proofs.TradesFair.{fair_trades}

-- between events the tally agrees with the match state, but for an order that came to stand, of which there is no line
abbrev pub AgreesOnceRested : Option Order → Tally → MatchState → Type 0
AgreesOnceRested (Some o) t f = TallyAgrees t f
AgreesOnceRested None t f = TallyAgrees (incoming_rested t) f

pub agrees_once_rested : (f : MatchState) (t : Tally) → TallyAgrees t f → AgreesOnceRested f.incoming t f
agrees_once_rested f t m = go f.incoming refl
  where
    go : (h : Option Order) → f.incoming ≡ h → AgreesOnceRested h t f
    go (Some o) e = m
    go None e = tally_agrees_idle f t e m

agrees_with_incoming : (f : MatchState) (t : Tally) (o : Order) → f.incoming ≡ Some o → AgreesOnceRested f.incoming t f → TallyAgrees t f
agrees_with_incoming f t o e w = subst (λ h. AgreesOnceRested h t f) e w

pub agrees_with_none : (f : MatchState) (t : Tally) → f.incoming ≡ None → AgreesOnceRested f.incoming t f → TallyAgrees (incoming_rested t) f
agrees_with_none f t e w = subst (λ h. AgreesOnceRested h t f) e w

lines_tell_event : (q : Request) (e : Event) (f : MatchState) → MayRun e f → RoomFor e f → Consistent f → (t : Tally) → AgreesOnceRested f.incoming t f →
    AgreesOnceRested (apply e f).incoming (noted q (event_lines e) t) (apply e f) × FairLines q (event_lines e) t
lines_tell_event q (cancels_incoming c o) f n r s t w = (tally_agrees_idle (apply (cancels_incoming c o) f) (noted q (event_lines (cancels_incoming c o)) t) refl (tally_agrees_cancels_incoming c o f n.0 s t (agrees_with_incoming f t o n.0 w)), (tt, tt))
lines_tell_event q (trades o x) f n r s t w =
    let m = agrees_with_incoming f t o n.0.is_incoming w in
    (agrees_once_rested (apply (trades o x) f) (noted q (event_lines (trades o x)) t) (tally_agrees_trades o x f n.0 s t r m), (tt, fair_trades o x f n.0 s t m))
lines_tell_event q (rests o) f n r s t w = (tally_agrees_rests o f n.0 s t (agrees_with_incoming f t o n.0.is_incoming w), tt)
lines_tell_event q (triggers z x) f n r s t w = (tally_agrees_triggers z x f n.0 s r (incoming_rested t) (agrees_with_none f t n.0.0 w), (tt, tt))
lines_tell_event q _ f n r s t w = absurd n.1

-- the lines from one match state to another
pub record LinesTell (q : Request) (t : Tally) (f g : MatchState) : Type 0 where
  pub lines : List Line
  pub tape_grew : tape g ≡ lines ++ tape f
  pub fair : FairLines q lines t
  pub agrees : AgreesOnceRested g.incoming (noted q lines t) g

pub noted-++ : (q : Request) (a b : List Line) (t : Tally) → noted q (a ++ b) t ≡ noted q a (noted q b t)
noted-++ q [] b t = refl
noted-++ q (l ∷ a) b t = ap (note q l) (noted-++ q a b t)

pub fair-++ : (q : Request) (a b : List Line) (t : Tally) → FairLines q b t → FairLines q a (noted q b t) → FairLines q (a ++ b) t
fair-++ q [] b t h k = h
fair-++ q (l ∷ a) b t h k = (fair-++ q a b t h k.0, rw (noted-++ q a b t) k.1)

-- the lines of an event, and then more
pub lines_tell_then : (q : Request) (t : Tally) (e : Event) (f g : MatchState) → RoomFor e f → FairLines q (event_lines e) t → LinesTell q (noted q (event_lines e) t) (apply e f) g → LinesTell q t f g
lines_tell_then q t e f g r h k = record {
  lines = k.lines ++ event_lines e;
  tape_grew = k.tape_grew ∙ (ap (λ l. k.lines ++ l) (tape_is e f r) ∙ sym (append_assoc k.lines (event_lines e) (tape f)));
  fair = fair-++ q k.lines (event_lines e) t h k.fair;
  agrees = rw (noted-++ q k.lines (event_lines e) t) k.agrees;
}

pub lines_tell_nothing : (q : Request) (t : Tally) (f : MatchState) → AgreesOnceRested f.incoming t f → LinesTell q t f f
lines_tell_nothing q t f w = record { lines = []; tape_grew = refl; fair = tt; agrees = w }

lines_tell_run : (q : Request) (t : Tally) {f g : MatchState} → RunsTo f g → Consistent f → AgreesOnceRested f.incoming t f → LinesTell q t f g
lines_tell_run q t (at_end {f}) s w = lines_tell_nothing q t f w
lines_tell_run q t (at_next {f} {g} e n r l) s w =
    let k = lines_tell_event q e f n r s t w in
    lines_tell_then q t e f g r k.1 (lines_tell_run q (noted q (event_lines e) t) l (consistent_apply e f n.0 r s) k.0)

pub lines_tell_run_to_rest : (q : Request) (t : Tally) (f : MatchState) → Consistent f → RoomForRest f → AgreesOnceRested f.incoming t f → LinesTell q t f (run_to_rest f)
lines_tell_run_to_rest q t f s h w = lines_tell_run q t (run_to_rest_runs f s h) s w
