-- An order reads back from its row: two orders with one row are one.
use Rattle.std.proofs.Common.{◌≡◌, true, false, ap, arith}
use Rattle.std.proofs.lemmas.Bool.Decides.{nat_tests}
use Rattle.orders.specs.declared.price.Price.{Price}
use Rattle.orders.specs.declared.order.Stop.{Stop}
use denote.Struct.Record.{values_one}
use Rattle.orders.specs.contracts.order.Order.{struct, the_type}
use Rattle.orders.specs.declared.order.Order.{Order}
use Rattle.orders.specs.declared.row.OrderRow.{OrderRow}
use Rattle.orders.specs.Bounds.{in_bounds, keeps_bounds, InBounds}
use Rattle.orders.specs.Rows.{row_of, sound_row, order_of, stop_of, stop_row_of}

pub same_order : (a b : Order) → row_of a ≡ row_of b → a ≡ b
same_order a b e = values_one struct the_type.propositions a b (ap (λ (r : OrderRow). (r.number, (r.turn, (r.firm, (r.client, (r.side, (r.price, (r.quantity, (r.open_lots, (r.shown, (r.disclosed, (r.validity, (r.investor, (r.tag, tt)))))))))))))) e)

pub in_bounds_from : (r : OrderRow) → InBounds r → keeps_bounds r ≡ true
unfolding keeps_bounds
in_bounds_from r h = grind (arith, nat_tests)

-- the row of an order keeps the bounds, so it reads back as the order
pub row_in_bounds : (o : Order) → keeps_bounds (row_of o) ≡ true
unfolding keeps_bounds
row_in_bounds o = grind (arith, nat_tests)

pub order_of_its_row : (o : Order) → order_of (row_of o) ≡ o
order_of_its_row o = same_order (order_of (row_of o)) o (ap (λ b. sound_row b (row_of o)) (row_in_bounds o))

pub stop_of_its_row : (s : Stop) → stop_of (stop_row_of s) ≡ s
stop_of_its_row s = ap (λ (o : Order). stop_with o s.trigger) (order_of_its_row s.order)
  where
    stop_with : Order → Price → Stop
    stop_with o t = record { order = o; trigger = t }

pub read_in_bounds : (r : OrderRow) → in_bounds r ≡ true → row_of (order_of r) ≡ r
unfolding keeps_bounds
read_in_bounds r e = ap (λ b. sound_row b r) e

pub read_out_of_bounds : (r : OrderRow) → in_bounds r ≡ false → row_of (order_of r) ≡ sound_row false r
unfolding keeps_bounds
read_out_of_bounds r e = ap (λ b. sound_row b r) e
