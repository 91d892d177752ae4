-- The lines and stamps for a record as published (rules 7).
-- Definitions cite the constants of the code; these are their values.
use Rattle.std.specs.Prelude.{◌≡◌}
use Rattle.venue.specs.declared.room.TheConstants.{ROOM_PER_RECORD}

pub record RoomLimits : Type 0 where
  pub per_record : ROOM_PER_RECORD ≡ 20
