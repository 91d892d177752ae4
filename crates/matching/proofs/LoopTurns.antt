-- Each turn of the loops of `run_to_rest` is the event that happens next.
use Rattle.std.proofs.Common.{◌≡◌, ◌<◌, ◌≤◌, true, false, Some, None, Option, sym, refl, ap, ◌∙◌, subst, arith}
use Rattle.orders.specs.declared.side.Side.{Side}
use Rattle.orders.specs.declared.order.Order.{Order}
use Rattle.orders.specs.declared.order.Stop.{Stop}
use Rattle.orders.specs.Sides.{opposite}
use Rattle.orders.specs.Lots.{within_limit, same_investor}
use Rattle.books.specs.Model.{Queues}
use Rattle.tapes.specs.declared.tape.Tape.{Tape}
use Rattle.tapes.specs.declared.cause.Cause.TheVariants.{OwnInvestor}
use Rattle.matching.specs.declared.session.Session.{Session}
use Rattle.matching.specs.Model.{MatchState, Event, cancels_incoming, trades, triggers, apply}
use Rattle.matching.specs.Running.{first_order, leftover, incoming_event, next_stop, trigger_event, weight, run_to_rest}
use Rattle.matching.specs.MatchStates.{match_state}
use Rattle.matching.proofs.WeightFalls.{Turn, turn, run_to_rest_end}

-- g is on the way from f to rest: it runs to the same rest, and weighs no more
pub record OnTheWay (f g : MatchState) : Type 0 where
  pub same_end : run_to_rest g ≡ run_to_rest f
  pub no_more : weight g ≤ weight f

pub on_the_way_at_start : (f : MatchState) → OnTheWay f f
on_the_way_at_start f = record { same_end = refl; no_more = omega arith }

pub on_the_way_after_turn : (f g h : MatchState) → OnTheWay f g → Turn g h → OnTheWay f h
on_the_way_after_turn f g h a t = record { same_end = t.same_rest ∙ a.same_end; no_more = omega (arith, t.weight_falls, a.no_more) }

pub on_the_way_after_both : (f g h k : MatchState) → OnTheWay f g → OnTheWay g h → Turn h k → OnTheWay f k
on_the_way_after_both f g h k a b t = record { same_end = t.same_rest ∙ b.same_end ∙ a.same_end; no_more = omega (arith, t.weight_falls, a.no_more, b.no_more) }

pub weight_falls_on_the_way : (g h k : MatchState) → OnTheWay g h → Turn h k → weight k < weight g
weight_falls_on_the_way g h k b t = omega (arith, t.weight_falls, b.no_more)

module _ (q : Queues) (t : Tape) (d : Session) (h : Option Order) (o : Order) (s : Side) (m : Option Order) (g : MatchState) (w : h ≡ Some o) (side : s ≡ opposite o.side) (first : m ≡ first_order s q) where
  turn_of_incoming : (e : Event) → incoming_event o m q ≡ e → g ≡ apply e (match_state q t d (Some o)) → Turn (match_state q t d h) g
  turn_of_incoming e n k =
      let z : first_order (opposite o.side) q ≡ m = ap (λ s. first_order s q) (sym side) ∙ sym first in
      subst (λ (h : Option Order). Turn (match_state q t d h) g) (sym w) (turn (match_state q t d (Some o)) g e (ap (λ m. Some (incoming_event o m q)) z ∙ ap Some n) k)

  pub turn_without_opposite : m ≡ None → g ≡ apply (leftover o q) (match_state q t d (Some o)) → Turn (match_state q t d h) g
  turn_without_opposite e k = turn_of_incoming (leftover o q) (ap (λ m. incoming_event o m q) e) k

  pub turn_beyond_limit : (r : Order) → m ≡ Some r → false ≡ within_limit o.side o.price r.price → g ≡ apply (leftover o q) (match_state q t d (Some o)) → Turn (match_state q t d h) g
  turn_beyond_limit r e b k = turn_of_incoming (leftover o q) (ap (λ m. incoming_event o m q) e ∙ rw (← b) refl) k

  pub turn_own_investor : (r : Order) → m ≡ Some r → true ≡ within_limit o.side o.price r.price → true ≡ same_investor o r → g ≡ apply (cancels_incoming OwnInvestor o) (match_state q t d (Some o)) → Turn (match_state q t d h) g
  turn_own_investor r e b i k = turn_of_incoming (cancels_incoming OwnInvestor o) (ap (λ m. incoming_event o m q) e ∙ rw (← b, ← i) refl) k

  pub turn_trade : (r : Order) → m ≡ Some r → true ≡ within_limit o.side o.price r.price → false ≡ same_investor o r → g ≡ apply (trades o r) (match_state q t d (Some o)) → Turn (match_state q t d h) g
  turn_trade r e b i k = turn_of_incoming (trades o r) (ap (λ m. incoming_event o m q) e ∙ rw (← b, ← i) refl) k

pub turn_trigger : (q : Queues) (t : Tape) (d : Session) (h : Option Order) (m : Option (Side × Stop)) (p : Side × Stop) (g : MatchState) → h ≡ None → m ≡ next_stop d.last_price q → m ≡ Some p → g ≡ apply (triggers p.0 p.1) (match_state q t d None) → Turn (match_state q t d h) g
turn_trigger q t d h m p g w n e k =
    subst (λ (h : Option Order). Turn (match_state q t d h) g) (sym w) (turn (match_state q t d None) g (triggers p.0 p.1) (ap trigger_event (sym n ∙ e)) k)

pub rest_without_ripe : (q : Queues) (t : Tape) (d : Session) (h : Option Order) (m : Option (Side × Stop)) → h ≡ None → m ≡ next_stop d.last_price q → m ≡ None → match_state q t d None ≡ run_to_rest (match_state q t d h)
rest_without_ripe q t d h m w n e =
    subst (λ (h : Option Order). match_state q t d None ≡ run_to_rest (match_state q t d h)) (sym w) (sym (run_to_rest_end (match_state q t d None) (ap trigger_event (sym n ∙ e))))
