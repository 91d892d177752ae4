-- Whether the tape and the stamps suffice for a step (rules 7).
use Rattle.std.specs.Prelude.{ℕ, ◌+◌, ◌*◌, Ok, Err, Result, nat_lt, if◌then◌else◌}
use Rattle.orders.specs.declared.side.Side.TheVariants.{Buy, Sell}
use Rattle.books.specs.declared.queue.Queue.TheVariants.{Orders, Stops}
use Rattle.books.specs.Model.{Queues, count}
use Rattle.tapes.specs.Logs.{Log, free_lines}
use Rattle.forms.specs.declared.refusal.Refusal.{Refusal}
use Rattle.forms.specs.declared.refusal.Refusal.TheVariants.{TapeFull, NoStamps}
use Rattle.matching.specs.declared.session.Session.{Session}
use Rattle.matching.specs.Sessions.{undrawn_stamps}
use Rattle.venue.specs.declared.room.TheConstants.{ROOM_PER_RECORD}

-- standing orders and waiting stops (rules 1)
abbrev pub records : Queues → ℕ
records queues =
    count (Orders Buy) queues + count (Orders Sell) queues
    + count (Stops Buy) queues + count (Stops Sell) queues

-- 20 lines or stamps for each record and one more (rules 7)
abbrev pub needed : Queues → ℕ
needed queues = ROOM_PER_RECORD * (records queues + 1)

-- the tape has the free lines that a step may need, or 22 (rules 7)
abbrev pub lines_free : Queues → Log → Result (Unit {0}) Refusal
lines_free queues tape =
    if nat_lt (free_lines tape) (needed queues) then Err TapeFull else Ok tt

-- as many stamps are undrawn as an entry or a change may need, or 23 (rules 7)
abbrev pub stamps_free : Queues → Session → Result (Unit {0}) Refusal
stamps_free queues session =
    if nat_lt (undrawn_stamps session) (needed queues) then Err NoStamps else Ok tt
