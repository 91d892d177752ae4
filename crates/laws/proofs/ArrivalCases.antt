-- The first event of an entry, case by case.
use Rattle.std.proofs.Common.{Ok, Err, ◌≡◌, ℕ, false, ◌⊎◌, Some, None, Option, refl, inl, inr}
use Rattle.std.proofs.lemmas.Bool.{cond_both}
use Rattle.orders.specs.declared.price.Price.{Price}
use Rattle.orders.specs.declared.order.Order.{Order}
use Rattle.orders.specs.Sides.{opposite}
use Rattle.books.specs.declared.queue.Record.TheVariants.{Waiting}
use Rattle.books.specs.declared.queue.PutError.{PutError}
use Rattle.books.specs.declared.queue.PutError.TheVariants.{Full, Twice}
use Rattle.books.specs.Model.{Queues, put_answer, PutAnswer}
use Rattle.tapes.specs.declared.cause.Cause.TheVariants.{ShortReach, NotPut}
use Rattle.matching.specs.declared.new_order.OrderType.{OrderType}
use Rattle.matching.specs.declared.new_order.OrderType.TheVariants.{Limit, Market, StopLimit}
use Rattle.matching.specs.declared.new_order.NewOrder.{NewOrder}
use Rattle.matching.specs.Model.{Event, accepts, accepts_stop, accepts_and_cancels, accepts_unmatched}
use Rattle.matching.specs.Running.{first_order}
use Rattle.matching.specs.Entering.{entered_order, falls_short, accepts_or_cancels, entered_stop, accepts_stop_or_cancels, market_arrival, arrival_as, arrival}

-- the limit of an entry that is no stop: its price, or for a market order the first opposite price
abbrev pub LimitOf : NewOrder → Queues → Price → Type 0
LimitOf a q price = (a.order_type ≡ Limit price) ⊎ ((a.order_type ≡ Market) × ((r : Order) × (first_order (opposite a.side) q ≡ Some r) × (r.price ≡ price)))

-- an order is entered, or cancelled for its short reach or for want of an opposite; a stop is put, or cancelled where put refuses it
module _ (a : NewOrder) (stamp : ℕ) (q : Queues) (P : Event → Type 0)
    (order_entered : (price : Price) → LimitOf a q price → falls_short a (entered_order a price stamp) q ≡ false → P (accepts (entered_order a price stamp)))
    (order_short : (price : Price) → LimitOf a q price → P (accepts_and_cancels ShortReach (entered_order a price stamp)))
    (order_unmatched : P (accepts_unmatched stamp a.quantity))
    (stop_put : (limit trigger : Price) → a.order_type ≡ StopLimit limit trigger →
    put_answer (Waiting (entered_stop trigger (entered_order a limit stamp))) q ≡ Ok tt → P (accepts_stop (entered_stop trigger (entered_order a limit stamp))))
    (stop_refused : (limit trigger : Price) (error : PutError) → a.order_type ≡ StopLimit limit trigger →
    put_answer (Waiting (entered_stop trigger (entered_order a limit stamp))) q ≡ Err error → P (accepts_and_cancels NotPut (entered_order a limit stamp))) where
  with_limit : (price : Price) → LimitOf a q price → P (accepts_or_cancels a (entered_order a price stamp) q)
  with_limit price l =
      cond_both (falls_short a (entered_order a price stamp) q) (accepts_and_cancels ShortReach (entered_order a price stamp)) (accepts (entered_order a price stamp)) P
      (λ _. order_short price l) (λ e. order_entered price l e)

  of_market : a.order_type ≡ Market → (m : Option Order) → first_order (opposite a.side) q ≡ m → P (market_arrival a stamp m q)
  of_market k None e = order_unmatched
  of_market k (Some r) e = with_limit r.price (inr (k, (r, e, refl)))

  of_stop : (limit trigger : Price) → a.order_type ≡ StopLimit limit trigger → (p : PutAnswer) → put_answer (Waiting (entered_stop trigger (entered_order a limit stamp))) q ≡ p →
      P (accepts_stop_or_cancels p (entered_stop trigger (entered_order a limit stamp)))
  of_stop limit trigger k (Ok _) e = stop_put limit trigger k e
  of_stop limit trigger k (Err Full) e = stop_refused limit trigger Full k e
  of_stop limit trigger k (Err Twice) e = stop_refused limit trigger Twice k e

  of_type : (k : OrderType) → a.order_type ≡ k → P (arrival_as k a stamp q)
  of_type (Limit price) e = with_limit price (inl e)
  of_type Market e = of_market e (first_order (opposite a.side) q) refl
  of_type (StopLimit limit trigger) e = of_stop limit trigger e (put_answer (Waiting (entered_stop trigger (entered_order a limit stamp))) q) refl

  pub arrival_cases : P (arrival a stamp q)
  arrival_cases = of_type a.order_type refl
