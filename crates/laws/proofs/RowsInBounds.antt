-- The rows that steps build keep the bounds, so each order has the fields of its row.
use Rattle.std.proofs.Common.{◌≡◌, ℕ, ◌-◌, ◌*◌, ◌<◌, ◌≤◌, sym, refl, ap, ◌∙◌, arith}
use Rattle.orders.specs.declared.order.Order.{Order}
use Rattle.orders.specs.declared.row.OrderRow.{OrderRow}
use Rattle.orders.specs.declared.price.Price.{Price}
use Rattle.orders.specs.Bounds.{InBounds}
use Rattle.orders.specs.Rows.{row_of, sound_row, order_of}
use Rattle.orders.specs.Lots.{showing, with_lots, order_reduced, order_refilled}
use Rattle.orders.proofs.RowRoundTrip.{in_bounds_from}
use Rattle.matching.specs.declared.new_order.NewOrder.{NewOrder}
use Rattle.matching.specs.Entering.{entered_order}
use Rattle.laws.specs.Tally.{entered_account_row}
use Rattle.matching.proofs.PartsFall.{reduced_fits, refilled_fits, showing_0, showing_1, showing_some}

-- a row within the bounds reads back
pub reads_back : (r : OrderRow) → InBounds r → row_of (order_of r) ≡ r
reads_back r h = ap (λ b. sound_row b r) (in_bounds_from r h)

pub reduced_row : (lots : ℕ) (o : Order) → lots < o.shown → row_of (order_reduced lots o) ≡ with_lots o.turn (o.open_lots - lots) (o.shown - lots) o
reduced_row lots o h = reads_back (with_lots o.turn (o.open_lots - lots) (o.shown - lots) o) (reduced_fits lots o h)

pub refilled_row : (turn lots : ℕ) (o : Order) → lots < o.open_lots →
    row_of (order_refilled turn lots o) ≡ with_lots turn (o.open_lots - lots) (showing o.disclosed (o.open_lots - lots)) o
refilled_row turn lots o h = reads_back (with_lots turn (o.open_lots - lots) (showing o.disclosed (o.open_lots - lots)) o) (refilled_fits turn lots o h)

-- a quantity that may be asked for with this disclosed (rules 8)
pub record QuantityAllowed (quantity disclosed : ℕ) : Type 0 where
  pub some : 1 ≤ quantity
  pub few : quantity ≤ 1000000
  pub parts : 1 ≤ disclosed → quantity ≤ 16 * disclosed

-- a row that shows in full is within the bounds
pub shown_in_full_in_bounds : (r : OrderRow) → r.shown ≡ showing r.disclosed r.open_lots → 1 ≤ r.open_lots → r.open_lots ≤ r.quantity → QuantityAllowed r.quantity r.disclosed → InBounds r
shown_in_full_in_bounds r e h q a =
    let s = showing_some r.disclosed r.open_lots h in
    record {
      some_shown = omega arith;
      shown_within_open = omega arith;
      open_within_quantity = q;
      quantity_within_most = a.few;
      whole_shown = λ z. e ∙ showing_0 r.disclosed r.open_lots z;
      part_within_disclosed = λ z. omega (arith, showing_1 r.disclosed r.open_lots z);
      hidden_within_parts = λ z. omega (arith, showing_1 r.disclosed r.open_lots z, a.parts z);
    }

-- the row of an entered order
abbrev pub entered_row : NewOrder → Price → ℕ → OrderRow
entered_row a price stamp = record (entered_account_row a price stamp stamp) { shown = showing a.disclosed a.quantity }

pub order_from_row : (a : NewOrder) (price : Price) (stamp : ℕ) → QuantityAllowed a.quantity a.disclosed → row_of (entered_order a price stamp) ≡ entered_row a price stamp
order_from_row a price stamp h = reads_back (entered_row a price stamp) (shown_in_full_in_bounds (entered_row a price stamp) refl h.some (omega arith) h)

-- an order shows as much as it may (rules 3)
abbrev pub ShowsInFull : Order → Type 0
ShowsInFull o = o.shown ≡ showing o.disclosed o.open_lots

pub refilled_shows : (turn lots : ℕ) (o : Order) → lots < o.open_lots → ShowsInFull (order_refilled turn lots o)
refilled_shows turn lots o h =
    let e = refilled_row turn lots o h in
    ap (λ (r : OrderRow). r.shown) e ∙ sym (ap (λ (r : OrderRow). showing r.disclosed r.open_lots) e)

pub entered_shows : (a : NewOrder) (price : Price) (stamp : ℕ) → QuantityAllowed a.quantity a.disclosed → ShowsInFull (entered_order a price stamp)
entered_shows a price stamp h =
    let e = order_from_row a price stamp h in
    ap (λ (r : OrderRow). r.shown) e ∙ sym (ap (λ (r : OrderRow). showing r.disclosed r.open_lots) e)
