-- A tally of the orders: kept from what accepted steps were asked and from the lines that they
-- wrote, and from nothing else.
--   account           an order of the tally, and where it is: it stands, waits or is incoming
--   turn              the next turn, which the tally counts for itself
--   note              what a line of the tape does to the tally (rules 16)
--   incoming_rested   the tally when the incoming order, if any, has come to stand
-- An order that does not stand shows no lots.
use Rattle.std.specs.Prelude.{ℕ, ◌+◌, ◌-◌, min, Bool, true, false, if◌then◌else◌, not, ◌&&◌, ◌||◌, List, [], ◌∷◌, Some, None, Option, ◌==◌, nat_lt}
use Rattle.std.specs.Option.{unwrap_or}
use Rattle.orders.specs.declared.side.Side.{Side}
use Rattle.orders.specs.declared.price.Price.{Price}
use Rattle.orders.specs.declared.row.OrderRow.{OrderRow}
use Rattle.orders.specs.Prices.{same_price}
use Rattle.orders.specs.Sides.{opposite, same_side}
use Rattle.orders.specs.Lots.{showing}
use Rattle.tapes.specs.declared.line.Line.{Line}
use Rattle.tapes.specs.declared.line.Line.TheVariants.{Accepted, Replaced, Triggered, Traded, Cancelled}
use Rattle.matching.specs.declared.new_order.OrderType.{OrderType}
use Rattle.matching.specs.declared.new_order.OrderType.TheVariants.{Limit, Market, StopLimit}
use Rattle.matching.specs.declared.new_order.NewOrder.{NewOrder}
use Rattle.matching.specs.declared.amendment.Amendment.{Amendment}
use Rattle.matching.specs.Running.{total}
use Rattle.matching.specs.Reach.{better}

-- where an order is (rules 1)
pub data Status : Type 0 where
  stands waits incoming : Status

-- an order of the tally: where it is, and its row
pub record Account : Type 0 where
  pub status : Status
  pub order : OrderRow

-- a tally: its orders, and the next turn
pub record Tally : Type 0 where
  pub accounts : List Account
  pub turn : ℕ

abbrev pub account : Status → OrderRow → Account
account status order = record { status = status; order = order }

-- no orders, and the first turn
abbrev pub starting : ℕ → Tally
starting turn = record { accounts = []; turn = turn }

-- what a step was asked, as far as the tally needs it: an entry, a change, or removals
pub data Request : Type 0 where
  entry : NewOrder → Request
  change : Amendment → Request
  removal : Request

-- each account gives way to another, or leaves

abbrev pub account_if : Option Account → List Account → List Account
account_if None accounts = accounts
account_if (Some first) accounts = first ∷ accounts

abbrev pub adjust : (Account → Option Account) → List Account → List Account
adjust adjusted [] = []
adjust adjusted (first ∷ accounts) = account_if (adjusted first) (adjust adjusted accounts)

abbrev pub only : Bool → Option Account → Account → Option Account
only named adjusted unnamed = if named then adjusted else Some unnamed

abbrev pub numbered : ℕ → Account → Bool
numbered number existing = existing.order.number == number

-- an order under a turn, with other open and shown lots
abbrev pub row_with : (turn open_lots shown : ℕ) → OrderRow → OrderRow
row_with turn open_lots shown order =
    record order { turn = turn; open_lots = open_lots; shown = shown }

-- the orders that stand

abbrev pub standing : Status → Bool
standing stands = true
standing _ = false

abbrev pub stands_on : Side → Status → OrderRow → Bool
stands_on side status order = standing status && same_side order.side side

-- the best price that stands on a side (rules 4)
abbrev pub better_of : Side → Price → Option Price → Price
better_of side price None = price
better_of side price (Some other) = if better side other price then other else price

abbrev pub first_price : Side → List Account → Option Price
first_price side [] = None
first_price side (first ∷ accounts) =
    if stands_on side first.status first.order
    then Some (better_of side first.order.price (first_price side accounts))
    else first_price side accounts

-- lots come off the open and the shown ones; without open lots an order leaves, and where it stands
-- and its shown lots ran out it is refilled (rules 10)

abbrev pub row_refilled : ℕ → OrderRow → OrderRow
row_refilled turn order =
    row_with turn order.open_lots (showing order.disclosed order.open_lots) order

abbrev pub lots_off : ℕ → OrderRow → OrderRow
lots_off lots order = row_with order.turn (order.open_lots - lots) (order.shown - lots) order

abbrev pub shown_ran_out : Status → OrderRow → Bool
shown_ran_out status order = standing status && (not (order.open_lots == 0) && order.shown == 0)

abbrev pub refilled_if : Bool → ℕ → OrderRow → OrderRow
refilled_if ran_out turn order = if ran_out then row_refilled turn order else order

abbrev pub if_open : Status → ℕ → OrderRow → Option Account
if_open status turn order =
    if order.open_lots == 0
    then None
    else Some (account status (refilled_if (shown_ran_out status order) turn order))

abbrev pub take_off : (lots turn : ℕ) → Account → Option Account
take_off lots turn existing = if_open existing.status turn (lots_off lots existing.order)

-- how many turns that draws
abbrev pub turns_drawn : ℕ → Account → ℕ
turns_drawn lots existing =
    if shown_ran_out existing.status (lots_off lots existing.order) then 1 else 0

-- the incoming order comes to stand, and shows what it may (rules 3, 11)
abbrev pub rested : Status → OrderRow → Account
rested incoming order = account stands (row_refilled order.turn order)
rested status order = account status order

abbrev pub incoming_rested : Tally → Tally
incoming_rested tally =
    record tally { accounts = adjust (λ a. Some (rested a.status a.order)) tally.accounts }

-- line A: the entry's order, wholly open (rules 8)

-- the price of a line without one (rules 2)
abbrev pub price_of_none : Price
price_of_none = record { hundredths = 0 }

-- a market order has the first opposite price as its limit
abbrev pub limit_as : OrderType → Side → List Account → Price
limit_as (Limit price) side accounts = price
limit_as Market side accounts = unwrap_or (first_price (opposite side) accounts) price_of_none
limit_as (StopLimit limit trigger) side accounts = limit

abbrev pub status_as : OrderType → Status
status_as (StopLimit limit trigger) = waits
status_as _ = incoming

abbrev pub entered_account_row : NewOrder → Price → (number turn : ℕ) → OrderRow
entered_account_row asked price number turn = record {
  number = number;
  turn = turn;
  firm = asked.firm;
  client = asked.client;
  side = asked.side;
  price = price;
  quantity = asked.quantity;
  open_lots = asked.quantity;
  shown = 0;
  disclosed = asked.disclosed;
  validity = asked.validity;
  investor = asked.investor;
  tag = asked.tag;
}

abbrev pub note_entry : Request → ℕ → Tally → Tally
note_entry (entry asked) number tally = record {
  accounts = account (status_as asked.order_type)
      (entered_account_row asked (limit_as asked.order_type asked.side tally.accounts) number
      tally.turn)
      ∷ tally.accounts;
  turn = tally.turn + 1;
}
note_entry _ number tally = tally

-- line R: the order as changed; the new quantity counts the lots already traded (rules 13)

abbrev pub costs_turn : Amendment → OrderRow → Bool
costs_turn asked order =
    not (same_price (unwrap_or asked.price order.price) order.price)
    || (nat_lt order.quantity (unwrap_or asked.quantity order.quantity)
    || not (unwrap_or asked.disclosed order.disclosed == order.disclosed))

abbrev pub open_then : Amendment → OrderRow → ℕ
open_then asked order = unwrap_or asked.quantity order.quantity - (order.quantity - order.open_lots)

abbrev pub changed_row : Amendment → (turn shown : ℕ) → OrderRow → OrderRow
changed_row asked turn shown order = record order {
  turn = turn;
  client = asked.client;
  price = unwrap_or asked.price order.price;
  quantity = unwrap_or asked.quantity order.quantity;
  open_lots = open_then asked order;
  shown = shown;
  disclosed = unwrap_or asked.disclosed order.disclosed;
  validity = unwrap_or asked.validity order.validity;
}

-- it becomes incoming under a new turn, or stays where it is and keeps its turn, and shows the
-- smaller of its shown and open lots (rules 13)
abbrev pub after_change : Amendment → ℕ → Account → Account
after_change asked turn existing =
    if costs_turn asked existing.order
    then account incoming (changed_row asked turn 0 existing.order)
    else account existing.status
    (changed_row asked existing.order.turn
    (min existing.order.shown (open_then asked existing.order)) existing.order)

abbrev pub note_change : Request → ℕ → Tally → Tally
note_change (change asked) number tally = record {
  accounts = adjust (λ a. only (numbered number a) (Some (after_change asked tally.turn a)) a)
      tally.accounts;
  turn = tally.turn
      + total (λ a. if numbered number a then (if costs_turn asked a.order then 1 else 0) else 0)
      tally.accounts;
}
note_change _ number tally = tally

-- line S: the stop is incoming, under a new turn (rules 12)
abbrev pub triggered_account : ℕ → Account → Account
triggered_account turn existing =
    account incoming (row_with turn existing.order.open_lots 0 existing.order)

abbrev pub note_trigger : ℕ → Tally → Tally
note_trigger number tally = record {
  accounts = adjust (λ a. only (numbered number a) (Some (triggered_account tally.turn a)) a)
      tally.accounts;
  turn = tally.turn + 1;
}

-- line T: lots come off both orders (rules 10)
abbrev pub note_trade : (incoming_number resting_number lots : ℕ) → Tally → Tally
note_trade incoming_number resting_number lots tally = record {
  accounts = adjust
      (λ a. only (numbered incoming_number a || numbered resting_number a)
      (take_off lots tally.turn a) a)
      tally.accounts;
  turn = tally.turn
      + total
      (λ a. if numbered incoming_number a || numbered resting_number a
      then turns_drawn lots a
      else 0)
      tally.accounts;
}

-- line C: lots come off the order (rules 10, 11, 14, 15)
abbrev pub note_cancel : (number lots : ℕ) → Tally → Tally
note_cancel number lots tally = record tally {
  accounts = adjust (λ a. only (numbered number a) (take_off lots tally.turn a) a) tally.accounts;
}

-- what a line does; a stop that triggers is the next incoming order, so that the one before has
-- come to stand (rules 12, 16)
abbrev pub note : Request → Line → Tally → Tally
note asked (Accepted number limit quantity) tally = note_entry asked number tally
note asked (Replaced number limit quantity) tally = note_change asked number tally
note asked (Triggered number limit lots) tally = note_trigger number (incoming_rested tally)
note asked (Traded number resting price lots) tally = note_trade number resting lots tally
note asked (Cancelled number limit lots cause) tally = note_cancel number lots tally

-- the lines of a step, the latest first
abbrev pub noted : Request → List Line → Tally → Tally
noted asked [] tally = tally
noted asked (line ∷ earlier) tally = note asked line (noted asked earlier tally)
