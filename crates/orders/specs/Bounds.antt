-- The bounds of an order, as a test on a plain row, and what the test says (rules 3).
use Rattle.std.specs.Prelude.{◌≡◌, ℕ, ◌+◌, ◌*◌, ◌≤◌, Bool, true, ◌&&◌, ◌==◌, nat_le, if◌then◌else◌}
use Rattle.std.proofs.Common.{arith}
use Rattle.std.proofs.lemmas.Bool.{and_parts, leb-true, eqb-true, eq-eqb, ne_eqb}
use Rattle.orders.specs.declared.order.TheConstants.{MOST_LOTS, HIDDEN_PARTS}
use Rattle.orders.specs.declared.row.OrderRow.{OrderRow}

-- all open lots are shown where nothing is disclosed; else at most the disclosed, and at most 15
-- such parts are hidden (rules 3)
abbrev pub shown_in_bounds : (open_lots shown disclosed : ℕ) → Bool
shown_in_bounds open_lots shown disclosed =
    if disclosed == 0
    then shown == open_lots
    else nat_le shown disclosed && nat_le open_lots (shown + HIDDEN_PARTS * disclosed)

-- whether a row keeps the bounds of an order (rules 3)
abbrev pub in_bounds : OrderRow → Bool
in_bounds row =
    nat_le 1 row.shown
    && (nat_le row.shown row.open_lots
    && (nat_le row.open_lots row.quantity
    && (nat_le row.quantity MOST_LOTS
    && shown_in_bounds row.open_lots row.shown row.disclosed)))

-- the bounds, each as a fact (rules 3)
pub record InBounds (row : OrderRow) : Type 0 where
  pub some_shown : 1 ≤ row.shown
  pub shown_within_open : row.shown ≤ row.open_lots
  pub open_within_quantity : row.open_lots ≤ row.quantity
  pub quantity_within_most : row.quantity ≤ MOST_LOTS
  pub whole_shown : row.disclosed ≡ 0 → row.shown ≡ row.open_lots
  pub part_within_disclosed : 1 ≤ row.disclosed → row.shown ≤ row.disclosed
  pub hidden_within_parts : 1 ≤ row.disclosed →
      row.open_lots ≤ row.shown + HIDDEN_PARTS * row.disclosed

pub in_bounds_facts : (row : OrderRow) → in_bounds row ≡ true → InBounds row
in_bounds_facts row e =
    let a = and_parts _ _ e in
    let b = and_parts _ _ a.1 in
    let c = and_parts _ _ b.1 in
    let d = and_parts _ _ c.1 in
    let most = row.shown + HIDDEN_PARTS * row.disclosed in
    let parts = λ (h : 1 ≤ row.disclosed).
    and_parts (nat_le row.shown row.disclosed) (nat_le row.open_lots most)
    (rw (ne_eqb row.disclosed 0 (λ z. omega arith)) at d.1) in
    record {
      some_shown = leb-true 1 row.shown a.0;
      shown_within_open = leb-true row.shown row.open_lots b.0;
      open_within_quantity = leb-true row.open_lots row.quantity c.0;
      quantity_within_most = leb-true row.quantity MOST_LOTS d.0;
      whole_shown = λ h. eqb-true row.shown row.open_lots (rw (eq-eqb _ 0 h) at d.1);
      part_within_disclosed = λ h. leb-true row.shown row.disclosed (parts h).0;
      hidden_within_parts = λ h. leb-true row.open_lots most (parts h).1;
    }

-- the same test, whose body a proof sees only where it says so
unfoldable pub keeps_bounds : OrderRow → Bool
keeps_bounds row = in_bounds row

pub keeps_bounds_facts : (row : OrderRow) → keeps_bounds row ≡ true → InBounds row
unfolding keeps_bounds
keeps_bounds_facts row e = in_bounds_facts row e
