-- The session of a venue: the next stamp, and the last price (rules 2, 10).
--   stamp  the next value of one rising count; numbers and turns are stamps (rules 1)
use Rattle.std.specs.Prelude.{ℕ, ◌+◌, ◌-◌, max, Some, None, nat_lt, if◌then◌else◌}
use Rattle.orders.specs.declared.price.Price.{Price}
use Rattle.matching.specs.declared.session.Session.{Session}
use Rattle.matching.specs.declared.session.TheConstants.{STAMPS_END}

-- the stamp that follows a stamp; at the end of the stamps none is left to draw (rules 2)
abbrev pub stamp_after : ℕ → ℕ
stamp_after stamp = if nat_lt stamp STAMPS_END then stamp + 1 else stamp

-- the next stamp is drawn (rules 2)
abbrev pub stamp_drawn : Session → Session
stamp_drawn session = record session { next_stamp = stamp_after session.next_stamp }

-- a trade at a price, which is the last price from then on (rules 10)
abbrev pub traded_at : Price → Session → Session
traded_at price session = record session { last_price = Some price }

-- how many stamps are undrawn (rules 2)
abbrev pub undrawn_stamps : Session → ℕ
undrawn_stamps session = STAMPS_END - session.next_stamp

-- a session that is set to a first stamp, at least 1, before any trade (rules 6)
abbrev pub session_from : ℕ → Session
session_from stamp = record { next_stamp = max stamp 1; last_price = None }
