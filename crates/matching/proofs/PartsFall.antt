-- How many parts an order has, and that a refill leaves one less.
use Rattle.std.proofs.Common.{◌≡◌, ℕ, zero, suc, ◌+◌, ◌-◌, ◌*◌, ◌<◌, ◌≤◌, min, ap, ⊎_elim, div-lt_iff_lt-mul, le-div_iff_mul-le, arith}
use native.Mathlib.Nat.{div-zero, div-eq-sub-div}
use Rattle.std.proofs.lemmas.Bool.Decides.{nat_tests}
use Rattle.std.proofs.lemmas.Bool.{cases_lt, cases_eq}
use Rattle.orders.specs.declared.order.Order.{Order}
use Rattle.orders.specs.declared.row.OrderRow.{OrderRow}
use Rattle.orders.specs.Bounds.{InBounds}
use Rattle.orders.specs.Rows.{sound_row, order_of}
use Rattle.orders.specs.Lots.{showing, with_lots, order_refilled}
use Rattle.orders.proofs.RowRoundTrip.{in_bounds_from}
use Rattle.matching.specs.Running.{hidden_parts, parts}

-- at most 15 parts are hidden (rules 3)
hidden_parts_most : (h d : ℕ) → h ≤ 15 * d → hidden_parts h d ≤ 15
hidden_parts_most h zero k = rw div-zero (omega arith)
hidden_parts_most h (suc d) k = let b = (div-lt_iff_lt-mul {k = suc d} {x = h + (suc d - 1)} {y = 16} (omega arith)).1 (omega arith) in omega arith

-- showing the next part leaves one less
hidden_parts_fall : (h d : ℕ) → 1 ≤ h → 1 ≤ d → hidden_parts (h - min d h) d < hidden_parts h d
hidden_parts_fall h d a b = ⊎_elim (λ (l : h < d). let x = (div-lt_iff_lt-mul {k = d} {x = h - min d h + (d - 1)} {y = 1} b).1 (omega arith) in let y = (le-div_iff_mul-le {k = d} {x = 1} {y = h + (d - 1)} b).1 (omega arith) in omega arith)
    (λ (l : d ≤ h). let e = div-eq-sub-div {m = d} {n = h + (d - 1)} b (omega arith) in let k : h + (d - 1) - d ≡ h - min d h + (d - 1) = omega arith in rw (e, k) (omega arith)) (cases_lt h d)

hidden_lots_most : (o : Order) → o.open_lots - o.shown ≤ 15 * o.disclosed
hidden_lots_most o = ⊎_elim (λ (z : o.disclosed ≡ 0). omega (arith, o.whole_shown z)) (λ (z : o.disclosed ≡ 0 → ⊥). omega (arith, o.hidden_within_parts (omega arith))) (cases_eq o.disclosed 0)

pub parts_most : (o : Order) → parts o ≤ 16
unfolding parts
parts_most o = let k = hidden_parts_most (o.open_lots - o.shown) o.disclosed (hidden_lots_most o) in omega arith

pub parts_least : (o : Order) → 1 ≤ parts o
unfolding parts
parts_least o = omega arith

abbrev row_parts : OrderRow → ℕ
row_parts r = 1 + hidden_parts (r.open_lots - r.shown) r.disclosed

parts_of_row : (r : OrderRow) → InBounds r → parts (order_of r) ≡ row_parts r
unfolding parts
parts_of_row r h = ap (λ b. row_parts (sound_row b r)) (in_bounds_from r h)

-- an order with lots off its shown ones is within the bounds (rules 3)
pub reduced_fits : (lots : ℕ) (o : Order) → lots < o.shown → InBounds (with_lots o.turn (o.open_lots - lots) (o.shown - lots) o)
reduced_fits lots o h = record { some_shown = omega arith; shown_within_open = omega arith; open_within_quantity = omega arith; quantity_within_most = omega arith; whole_shown = λ z. omega (arith, o.whole_shown z); part_within_disclosed = λ z. omega (arith, o.part_within_disclosed z); hidden_within_parts = λ z. omega (arith, o.hidden_within_parts z) }

pub showing_0 : (d n : ℕ) → d ≡ 0 → showing d n ≡ n
showing_0 d n z = grind (arith, nat_tests)

pub showing_1 : (d n : ℕ) → 1 ≤ d → showing d n ≡ min d n
showing_1 d n z = grind (arith, nat_tests)

pub showing_some : (d n : ℕ) → 1 ≤ n → (1 ≤ showing d n) × (showing d n ≤ n)
showing_some d n h = ⊎_elim (λ (z : d ≡ 0). let e = showing_0 d n z in (omega arith, omega arith)) (λ (z : d ≡ 0 → ⊥). let e = showing_1 d n (omega arith) in (omega arith, omega arith)) (cases_eq d 0)

-- a refilled order is within the bounds (rules 3)
pub refilled_fits : (turn lots : ℕ) (o : Order) → lots < o.open_lots → InBounds (with_lots turn (o.open_lots - lots) (showing o.disclosed (o.open_lots - lots)) o)
refilled_fits turn lots o h =
    let s = showing_some o.disclosed (o.open_lots - lots) (omega arith) in
    record {
      some_shown = s.0;
      shown_within_open = s.1;
      open_within_quantity = omega arith;
      quantity_within_most = omega arith;
      whole_shown = λ z. showing_0 o.disclosed (o.open_lots - lots) z;
      part_within_disclosed = λ z. omega (arith, showing_1 o.disclosed (o.open_lots - lots) z);
      hidden_within_parts = λ z. omega (arith, showing_1 o.disclosed (o.open_lots - lots) z, o.hidden_within_parts z, o.part_within_disclosed z);
    }

-- a refilled order has one part less
pub parts_refilled : (turn : ℕ) (o : Order) → o.shown < o.open_lots → suc (parts (order_refilled turn o.shown o)) ≤ parts o
unfolding parts
parts_refilled turn o h =
    let d : ℕ = o.disclosed in
    let n : ℕ = o.open_lots - o.shown in
    let k : 1 ≤ d = ⊎_elim (λ (z : o.disclosed ≡ 0). absurd (omega (arith, o.whole_shown z))) (λ (z : o.disclosed ≡ 0 → ⊥). omega arith) (cases_eq o.disclosed 0) in
    let e = parts_of_row (with_lots turn n (showing d n) o) (refilled_fits turn o.shown o h) in
    let p : 1 + hidden_parts (n - showing d n) d ≡ 1 + hidden_parts (n - min d n) d = ap (λ m. 1 + hidden_parts (n - m) d) (showing_1 d n k) in
    let v = hidden_parts_fall n d (omega arith) k in
    omega arith
