-- The bytes of a row as written (sheets 3).
-- Definitions cite the constants of the code; these are their values.
use Rattle.std.specs.Prelude.{◌≡◌}
use Rattle.sheet_writer.specs.declared.packing.TheConstants.{MOST_ROW_BYTES}

pub record RowLimits : Type 0 where
  pub bytes : MOST_ROW_BYTES ≡ 255
