-- Between two steps nothing could trade: no bid meets an offer, and no stop is ripe.
use Rattle.std.specs.Prelude.{◌≡◌, ◌<◌, false, List, Option}
use Rattle.std.specs.List.{AllByRecursion}
use Rattle.orders.specs.declared.side.Side.{Side}
use Rattle.orders.specs.declared.price.Price.{Price}
use Rattle.orders.specs.declared.order.Order.{Order}
use Rattle.orders.specs.declared.order.Stop.{Stop}
use Rattle.orders.specs.Prices.{level}
use Rattle.books.specs.Model.{Both, Queues, at}
use Rattle.matching.specs.Running.{ripe}

-- every standing bid is priced below every standing offer (rules 10)
abbrev pub Uncrossed : Both (List Order) → Type 0
Uncrossed standing =
    AllByRecursion
    (λ (bid : Order).
    AllByRecursion (λ (offer : Order). level bid.price < level offer.price) standing.sell)
    standing.buy

-- no waiting stop is ripe at the last price (rules 12)
abbrev pub Unripe : Option Price → Queues → Type 0
Unripe last queues = (side : Side) →
    AllByRecursion (λ (stop : Stop). ripe side last stop.trigger ≡ false) (at side queues.waits)
