-- The limits of orders and prices as published (rules 2, 3).
-- Definitions cite the constants of the code; these are their values.
use Rattle.std.specs.Prelude.{◌≡◌}
use Rattle.orders.specs.declared.order.TheConstants.{MOST_LOTS, HIDDEN_PARTS}
use Rattle.orders.specs.declared.price.TheConstants.{LOWEST, HIGHEST}
use Rattle.orders.specs.declared.rank.TheConstants.{HIGHEST_KEY}

pub record OrderLimits : Type 0 where
  pub most_lots : MOST_LOTS ≡ 1000000
  pub hidden_parts : HIDDEN_PARTS ≡ 15
  pub lowest_price : LOWEST ≡ 1
  pub highest_price : HIGHEST ≡ 99999999
  pub highest_key : HIGHEST_KEY ≡ 4294967295
