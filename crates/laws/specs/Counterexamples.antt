-- The laws can be broken: for each a small tape, tally or book that breaks it.
use Rattle.std.specs.Prelude.{ℕ, [], ◌∷◌, Some}
use Rattle.orders.specs.declared.side.Side.{Side}
use Rattle.orders.specs.declared.side.Side.TheVariants.{Buy, Sell}
use Rattle.orders.specs.declared.side.Validity.TheVariants.{Day}
use Rattle.orders.specs.declared.price.Price.{Price}
use Rattle.orders.specs.declared.row.OrderRow.{OrderRow}
use Rattle.orders.specs.Rows.{order_of}
use Rattle.books.specs.Model.{Queues}
use Rattle.tapes.specs.declared.cause.Cause.TheVariants.{Requested}
use Rattle.tapes.specs.declared.line.Line.TheVariants.{Accepted, Traded, Cancelled}
use Rattle.laws.specs.Accounts.{Balanced}
use Rattle.laws.specs.Quiescence.{Uncrossed, Unripe}
use Rattle.laws.specs.Tally.{Tally, account, stands, incoming}
use Rattle.laws.specs.Fair.{Fair}

abbrev pub at_20 : Price
at_20 = record { hundredths = 2000 }

-- 100 lots at 20,00, all open and shown, with its number as turn
abbrev pub plain_order : ℕ → Side → OrderRow
plain_order number side = record {
  number = number;
  turn = number;
  firm = 1;
  client = number;
  side = side;
  price = at_20;
  quantity = 100;
  open_lots = 100;
  shown = 100;
  disclosed = 0;
  validity = Day;
  investor = 0;
  tag = 0;
}

-- nothing stands and nothing waits
abbrev pub no_records : Queues
no_records = record {
  stands = record { buy = []; sell = [] };
  waits = record { buy = []; sell = [] };
  standing_capacity = record { buy = 32; sell = 32 };
  waiting_capacity = record { buy = 32; sell = 32 };
}

-- 100 lots entered, 99 cancelled, none left
abbrev pub LostLot : Type 0
LostLot =
    Balanced (Cancelled 1 (Some at_20) 99 Requested ∷ Accepted 1 (Some at_20) 100 ∷ []) no_records
    → ⊥

-- 100 lots entered, all traded, and still open
abbrev pub DoubledLots : Type 0
DoubledLots =
    Balanced (Traded 2 1 at_20 100 ∷ Accepted 1 (Some at_20) 100 ∷ [])
    (record no_records {
      stands = record { buy = []; sell = order_of (plain_order 1 Sell) ∷ [] };
    })
    → ⊥

-- two offers stand, a buy order is incoming
abbrev pub two_offers : Tally
two_offers = record {
  accounts = account incoming (plain_order 3 Buy)
      ∷ account stands (plain_order 1 Sell)
      ∷ account stands (plain_order 2 Sell)
      ∷ [];
  turn = 4;
}

-- it may not trade with the second
abbrev pub OutOfTurn : Type 0
OutOfTurn = Fair 3 2 at_20 two_offers → ⊥

-- with the first it may not trade at 20,01, since it would pay above its limit
abbrev pub AboveLimit : Type 0
AboveLimit = Fair 3 1 (record { hundredths = 2001 }) two_offers → ⊥

-- and with an order that the tally does not hold, it may not trade at all
abbrev pub UnknownOrderTrades : Type 0
UnknownOrderTrades = Fair 3 7 at_20 two_offers → ⊥

-- a bid stands at the price of an offer
abbrev pub Crossed : Type 0
Crossed =
    Uncrossed
    (record {
      buy = order_of (plain_order 1 Buy) ∷ [];
      sell = order_of (plain_order 2 Sell) ∷ [];
    }) → ⊥

-- a buy stop waits at the last price
abbrev pub Ripe : Type 0
Ripe =
    Unripe (Some at_20)
    (record no_records {
      waits = record {
        buy = record { order = order_of (plain_order 1 Buy); trigger = at_20 } ∷ [];
        sell = [];
      };
    }) → ⊥

-- each law, broken
pub record Counterexamples : Type 0 where
  pub lost_lot : LostLot
  pub doubled_lots : DoubledLots
  pub out_of_turn : OutOfTurn
  pub above_limit : AboveLimit
  pub unknown_order_trades : UnknownOrderTrades
  pub crossed : Crossed
  pub ripe : Ripe
