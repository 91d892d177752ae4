-- What a trade leaves of its two orders, case by case.
use Rattle.std.proofs.Common.{◌≡◌, ℕ, ◌<◌, ◌≤◌, cond, eqb, Some, None, Option, arith}
use Rattle.std.proofs.lemmas.Bool.{cond_both, eqb-true, eqb-false}
use Rattle.orders.specs.declared.order.Order.{Order}
use Rattle.orders.specs.Lots.{order_refilled}
use Rattle.matching.specs.Model.{RestingOutcome, filled, refilled, reduced, outcome, incoming_left}

-- a resting order has no open lots left, or no shown ones, or some of both
pub outcome_cases : (lots : ℕ) (resting : Order) (P : RestingOutcome → Type 0) → lots ≤ resting.shown → (resting.open_lots ≡ lots → P filled) →
    (resting.shown ≡ lots → lots < resting.open_lots → P refilled) → (lots < resting.shown → P reduced) → P (outcome lots resting)
outcome_cases lots resting P most all_open all_shown some_shown =
    cond_both (eqb resting.open_lots lots) filled (cond (eqb resting.shown lots) refilled reduced) P
    (λ e. all_open (eqb-true resting.open_lots lots e))
    (λ e. let apart = eqb-false resting.open_lots lots e in
    cond_both (eqb resting.shown lots) refilled reduced P
    (λ d. let same = eqb-true resting.shown lots d in all_shown same (omega arith))
    (λ d. let other = eqb-false resting.shown lots d in some_shown (omega arith)))

-- an incoming order has no open lots left, or some
pub incoming_left_cases : (lots : ℕ) (order : Order) (P : Option Order → Type 0) → lots ≤ order.open_lots → (order.open_lots ≡ lots → P None) →
    (lots < order.open_lots → P (Some (order_refilled order.turn lots order))) → P (incoming_left lots order)
incoming_left_cases lots order P most all_open some_open =
    cond_both (eqb order.open_lots lots) None (Some (order_refilled order.turn lots order)) P
    (λ e. all_open (eqb-true order.open_lots lots e))
    (λ e. let apart = eqb-false order.open_lots lots e in some_open (omega arith))
