-- The two sides, and what a validity means (rules 1).
use Rattle.std.specs.Prelude.{ℕ, Bool, true, false, Some, None, Option, ◌==◌, if◌then◌else◌}
use Rattle.orders.specs.declared.side.Side.{Side}
use Rattle.orders.specs.declared.side.Side.TheVariants.{Buy, Sell}
use Rattle.orders.specs.declared.side.Validity.{Validity}
use Rattle.orders.specs.declared.side.Validity.TheVariants.{Day, Gtc, Ioc, Fok}
use Rattle.orders.specs.declared.side.UnknownCode.{UnknownCode}

-- the other side (rules 1)
abbrev pub opposite : Side → Side
opposite Buy = Sell
opposite Sell = Buy

-- whether two sides are the same
abbrev pub same_side : Side → Side → Bool
same_side Buy Buy = true
same_side Sell Sell = true
same_side _ _ = false

-- whether what does not trade at once is cancelled: such an order never stands (rules 8, 11)
abbrev pub is_immediate : Validity → Bool
is_immediate Ioc = true
is_immediate Fok = true
is_immediate _ = false

-- whether closing removes the order (rules 15)
abbrev pub is_day : Validity → Bool
is_day Day = true
is_day _ = false

-- the side of a number: 1 buys, 2 sells (rules 1)
abbrev pub side_of : ℕ → Option Side
side_of code = if code == 1 then Some Buy else if code == 2 then Some Sell else None

-- the validity of a number: 0 Day, 1 GTC, 3 IOC, 4 FOK (rules 1)
abbrev pub validity_of : ℕ → Option Validity
validity_of code =
    if code == 0 then Some Day else
    if code == 1 then Some Gtc else
    if code == 3 then Some Ioc else
    if code == 4 then Some Fok else None

-- the error for a number that names no side or validity: the number itself
abbrev pub unknown_code : ℕ → UnknownCode
unknown_code code = record { 0 = code }
