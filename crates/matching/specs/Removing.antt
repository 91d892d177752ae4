-- Removals: one record, or all that a removal names, in the order of the four queues.
use Rattle.std.specs.Prelude.{ℕ, zero, suc, ◌+◌, Bool, true, ◌&&◌, Some, None, Option, ◌==◌, if◌then◌else◌}
use Rattle.orders.specs.declared.side.Side.{Side}
use Rattle.orders.specs.declared.side.Side.TheVariants.{Buy, Sell}
use Rattle.orders.specs.declared.order.Order.{Order}
use Rattle.orders.specs.Sides.{same_side, is_day}
use Rattle.books.specs.declared.queue.Queue.{Queue}
use Rattle.books.specs.declared.queue.Queue.TheVariants.{Orders, Stops}
use Rattle.books.specs.declared.queue.Record.{Record}
use Rattle.books.specs.Model.{count, look_at, order_of_record}
use Rattle.tapes.specs.declared.cause.Cause.{Cause}
use Rattle.matching.specs.declared.removal.CancelFilter.{CancelFilter}
use Rattle.matching.specs.declared.removal.Removal.{Removal}
use Rattle.matching.specs.declared.removal.Removal.TheVariants.{Matching, DayOrders}
use Rattle.matching.specs.Model.{MatchState, cancels_resting, apply}

-- a blank cell matches every value, a filled one its own (rules 14)
abbrev pub matches_cell : {X : Type 0} → (X → X → Bool) → Option X → X → Bool
matches_cell same None x = true
matches_cell same (Some wanted) x = same wanted x

abbrev pub matches_side : Option Side → Side → Bool
matches_side cell side = matches_cell same_side cell side

abbrev pub matches_number : Option ℕ → ℕ → Bool
matches_number cell number = matches_cell (λ m k. m == k) cell number

-- an order of the firm that matches every filled cell (rules 14)
abbrev pub matches_filter : CancelFilter → Order → Bool
matches_filter filter order =
    filter.firm == order.firm
    && (matches_side filter.side order.side
    && (matches_number filter.tag order.tag && matches_number filter.investor order.investor))

-- what a mass cancel removes, and what a closing does (rules 14, 15)
abbrev pub removes : Removal → Order → Bool
removes (Matching filter) order = matches_filter filter order
removes DayOrders order = is_day order.validity

-- a record that the removal names is cancelled, any other is passed; behind the last the sweep ends
abbrev pub sweep_at : Option Record → Removal →
    (Record → MatchState) → MatchState → MatchState → MatchState
sweep_at None removal cancel pass end = end
sweep_at (Some found) removal cancel pass end =
    if removes removal (order_of_record found) then cancel found else pass

-- at most so many records of a queue, from a position on (rules 14)
unfoldable pub sweep : ℕ → Removal → Cause → Queue → ℕ → MatchState → MatchState
sweep zero removal cause queue i state = state
sweep (suc most) removal cause queue i state =
    sweep_at (look_at queue i state.queues) removal
    (λ found. sweep most removal cause queue i (apply (cancels_resting cause queue i found) state))
    (sweep most removal cause queue (i + 1) state)
    state

-- a whole queue, by rank (rules 14)
abbrev pub swept : Removal → Cause → Queue → MatchState → MatchState
swept removal cause queue state = sweep (count queue state.queues) removal cause queue 0 state

-- bids, offers, buy stops, sell stops (rules 14)
abbrev pub removals : Removal → Cause → MatchState → MatchState
removals removal cause state =
    swept removal cause (Stops Sell)
    (swept removal cause (Stops Buy)
    (swept removal cause (Orders Sell)
    (swept removal cause (Orders Buy) state)))
