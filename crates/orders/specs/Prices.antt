-- Prices: two are compared by their levels alone (rules 2).
use Rattle.std.specs.Prelude.{ℕ, Bool, ◌&&◌, ◌==◌, nat_le}
use Rattle.orders.specs.declared.price.Price.{Price}
use Rattle.orders.specs.declared.price.TheConstants.{LOWEST, HIGHEST}

-- how high a price is, in hundredths
abbrev pub level : Price → ℕ
level price = price.hundredths

-- whether two prices are the same
abbrev pub same_price : Price → Price → Bool
same_price a b = level a == level b

-- whether an order may carry the price: 0,01 to 999999,99 (rules 2)
abbrev pub in_price_range : Price → Bool
in_price_range price = nat_le LOWEST (level price) && nat_le (level price) HIGHEST
