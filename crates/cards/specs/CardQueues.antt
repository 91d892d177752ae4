-- What a front card means: the queues of the book below, with the held records for first ones of
-- their number and rank (rules 5).
use Rattle.std.specs.Option.{option_map}
use Rattle.orders.specs.Rows.{order_of, stop_of}
use Rattle.books.specs.Model.{Queues}
use Rattle.cards.specs.declared.card.FrontCard.{FrontCard}
use Rattle.cards.specs.Held.{Held, covered}

-- the orders and stops that its held rows are read as
abbrev pub held_by : {B : Type 0} → FrontCard B → Held
held_by card = record {
  orders = record { buy = option_map order_of card.bid; sell = option_map order_of card.offer };
  stops = record { buy = option_map stop_of card.buy; sell = option_map stop_of card.sell };
}

-- the queues of a front card, given what the book below means (rules 5)
abbrev pub card_queues : {B : Type 0} → (B → Queues) → FrontCard B → Queues
card_queues queues card = covered (held_by card) (queues card.below)
