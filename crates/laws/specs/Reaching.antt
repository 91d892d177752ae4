-- What reach means (rules 9): the lots that an order of that side, limit and investor would trade
-- at once, if it had no end of lots.
use Rattle.std.specs.Prelude.{◌≡◌, ℕ, zero, suc, ◌+◌, ◌≤◌, true, if◌then◌else◌, not, ◌⊎◌, List, [], ◌∷◌, Ok, ◌==◌}
use Rattle.orders.specs.declared.order.Order.{Order}
use Rattle.orders.specs.Sides.{opposite}
use Rattle.orders.specs.Lots.{order_refilled, within_limit, same_investor}
use Rattle.books.specs.RankedLists.{put_by_rank}
use Rattle.books.specs.Model.{Queues, at, rank_of}
use Rattle.forms.specs.declared.form.EntryForm.{EntryForm}
use Rattle.forms.specs.declared.form.Form.{Form}
use Rattle.forms.specs.declared.form.Form.TheVariants.{Entry}
use Rattle.matching.specs.declared.new_order.NewOrder.{NewOrder}
use Rattle.matching.specs.Running.{total, parts}
use Rattle.matching.specs.Reach.{reach}
use Rattle.matching.specs.Entering.{all_or_none}
use Rattle.validation.specs.Entries.{validate_entry}
use Rattle.venue.specs.Days.{State, set_up, answer, step}
use Rattle.laws.specs.Accounts.{traded_lots}
use Rattle.laws.specs.Runs.{session_of, after}

-- a queue when all that its first order shows is traded: the order leaves, or is refilled behind
-- its price under a new turn (rules 10)
abbrev pub front_traded : (turn : ℕ) → Order → List Order → List Order
front_traded turn first behind =
    if first.open_lots == first.shown
    then behind
    else put_by_rank rank_of (order_refilled turn first.shown first) behind

-- an order that has no end of lots trades on while the first opposite order is within the limit and
-- of another investor (rules 10)
abbrev pub unlimited_trade : (trades turn : ℕ) → Order → List Order → ℕ
unlimited_trade zero turn order opposites = 0
unlimited_trade (suc trades) turn order [] = 0
unlimited_trade (suc trades) turn order (first ∷ behind) =
    if not (within_limit order.side order.price first.price)
    then 0
    else if same_investor order first
    then 0
    else first.shown + unlimited_trade trades (suc turn) order (front_traded turn first behind)

-- in every state of a run, for every order, with trades enough for each part that an opposite order
-- shows
abbrev pub ReachMeans : Type 0
ReachMeans =
    (day stamp : ℕ) (q : Queues) (limit : ℕ) (forms : List Form) (order : Order) (trades : ℕ) →
    (let state : State = after forms (set_up day stamp q limit) in
    let opposites : List Order = at (opposite order.side) state.queues.stands in
    total parts opposites ≤ trades →
    reach order opposites
    ≡ unlimited_trade trades (session_of state.day).next_stamp order opposites)

-- so an entry that wants all trades whole or not at all, and one with a minimum trades at least
-- that or not at all (rules 8)
abbrev pub Filled : NewOrder → (lots : ℕ) → Type 0
Filled new_order lots =
    (all_or_none new_order.validity ≡ true → (lots ≡ 0) ⊎ (lots ≡ new_order.quantity))
    × ((lots ≡ 0) ⊎ (new_order.minimum ≤ lots))

-- an accepted entry draws the next stamp for its number; its lots on the trade lines of its step
abbrev pub AlwaysFilled : Type 0
AlwaysFilled =
    (day stamp : ℕ) (q : Queues) (limit : ℕ) (forms : List Form) (form : EntryForm)
    (new_order : NewOrder) →
    (let state : State = after forms (set_up day stamp q limit) in
    validate_entry form ≡ Ok new_order → answer (Entry form) state ≡ Ok tt →
    Filled new_order
    (total (traded_lots (session_of state.day).next_stamp) (step (Entry form) state).tape.lines))
