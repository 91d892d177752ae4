-- Which combinations of type, validity and quantities are barred (rules 8).
use Rattle.std.specs.Prelude.{ℕ, ◌*◌, Bool, true, false, ◌&&◌, ◌||◌, nat_lt}
use Rattle.orders.specs.Sides.{is_immediate}
use Rattle.matching.specs.declared.new_order.OrderType.{OrderType}
use Rattle.matching.specs.declared.new_order.OrderType.TheVariants.{StopLimit}
use Rattle.matching.specs.declared.new_order.NewOrder.{NewOrder}
use Rattle.validation.specs.declared.combinations.TheConstants.{MOST_PARTS}

abbrev pub is_stop : OrderType → Bool
is_stop (StopLimit limit trigger) = true
is_stop _ = false

-- disclosed above quantity, or a quantity of more than 16 parts of the disclosed lots (numbers 3)
abbrev pub disclosed_barred : (quantity disclosed : ℕ) → Bool
disclosed_barred quantity disclosed =
    nat_lt quantity disclosed
    || (nat_lt 0 disclosed && nat_lt (MOST_PARTS * disclosed) quantity)

-- a stop with IOC, FOK or a minimum; IOC or FOK with disclosed; minimum above quantity; disclosed
-- that does not fit the quantity (numbers 3)
abbrev pub barred : NewOrder → Bool
barred new_order =
    (is_stop new_order.order_type
    && (is_immediate new_order.validity || nat_lt 0 new_order.minimum))
    || ((is_immediate new_order.validity && nat_lt 0 new_order.disclosed)
    || (nat_lt new_order.quantity new_order.minimum
    || disclosed_barred new_order.quantity new_order.disclosed))
