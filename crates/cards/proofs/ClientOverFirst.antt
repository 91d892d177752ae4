-- A client number in a queue of a front card is that of the record held for it, or is in the queue below.
use Rattle.std.proofs.Common.{◌≡◌, ℕ, Bool, true, false, ◌||◌, List, map, true≢false, Option, Some, None, refl, ap, ◌∙◌, sym}
use Rattle.std.specs.List.{list_any}
use Rattle.std.specs.Option.{option_map}
use Rattle.orders.specs.declared.side.Side.TheVariants.{Buy, Sell}
use Rattle.orders.specs.declared.order.Order.{Order}
use Rattle.orders.specs.declared.order.Stop.{Stop}
use Rattle.books.specs.Model.{Queues, has_client, holds_client, rank_of, stop_rank_of}
use Rattle.books.specs.declared.queue.Queue.{Queue}
use Rattle.books.specs.declared.queue.Queue.TheVariants.{Orders, Stops}
use Rattle.books.specs.declared.queue.Record.TheVariants.{Standing, Waiting}
use Rattle.books.proofs.MappedLists.{any_map}
use Rattle.cards.specs.Held.{Held, held_at, over, one_is, record_has_client, covered}
use Rattle.cards.proofs.HeldOverFirst.{over_any}

-- an order has a firm's client number
abbrev order_has_client : (firm client : ℕ) → Order → Bool
order_has_client firm client o = has_client (λ (x : Order). x.firm) (λ (x : Order). x.client) firm client o

some_map : {X Y : Type 0} (f : X → Y) (p : Y → Bool) (o : Option X) → one_is p (option_map f o) ≡ one_is (λ x. p (f x)) o
some_map f p None = refl
some_map f p (Some x) = refl

standing : (firm client : ℕ) (h : Option Order) (xs : List Order) → list_any (order_has_client firm client) (over rank_of h xs) ≡ true →
    (one_is (record_has_client firm client) (option_map Standing h) || list_any (order_has_client firm client) xs) ≡ true
standing firm client h xs e =
    ap (λ b. b || list_any (order_has_client firm client) xs) (some_map Standing (record_has_client firm client) h)
    ∙ over_any rank_of (order_has_client firm client) h xs e

waiting : (firm client : ℕ) (h : Option Stop) (xs : List Stop) → list_any (order_has_client firm client) (map (λ (x : Stop). x.order) (over stop_rank_of h xs)) ≡ true →
    (one_is (record_has_client firm client) (option_map Waiting h) || list_any (order_has_client firm client) (map (λ (x : Stop). x.order) xs)) ≡ true
waiting firm client h xs e =
    let test : Stop → Bool = λ (x : Stop). order_has_client firm client x.order in
    ap (λ b. b || list_any (order_has_client firm client) (map (λ (x : Stop). x.order) xs)) (some_map Waiting (record_has_client firm client) h)
    ∙ ap (λ b. one_is test h || b) (any_map (λ (x : Stop). x.order) (order_has_client firm client) xs)
    ∙ over_any stop_rank_of test h xs (sym (any_map (λ (x : Stop). x.order) (order_has_client firm client) (over stop_rank_of h xs)) ∙ e)

pub held_or_below : (h : Held) (q : Queues) (firm client : ℕ) (n : Queue) → holds_client firm client n (covered h q) ≡ true →
    (one_is (record_has_client firm client) (held_at n h) || holds_client firm client n q) ≡ true
held_or_below h q firm client (Orders Buy) e = standing firm client h.orders.buy q.stands.buy e
held_or_below h q firm client (Orders Sell) e = standing firm client h.orders.sell q.stands.sell e
held_or_below h q firm client (Stops Buy) e = waiting firm client h.stops.buy q.waits.buy e
held_or_below h q firm client (Stops Sell) e = waiting firm client h.stops.sell q.waits.sell e

-- so what the held record does not have is below
pub then_below : (a b : Bool) → (a || b) ≡ true → a ≡ false → b ≡ true
then_below true b e f = absurd (true≢false f)
then_below false b e f = e
