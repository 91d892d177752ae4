-- The ranges of cells as published (sheets 5), and the most parts of an order (rules 3).
-- Definitions cite the constants of the code; these are their values.
use Rattle.std.specs.Prelude.{◌≡◌}
use Rattle.validation.specs.declared.cells.TheConstants.{HIGHEST_FIRM, HIGHEST_DAY, HIGHEST_IDENTIFIER, HIGHEST_INVESTOR, HIGHEST_TAG}
use Rattle.validation.specs.declared.combinations.TheConstants.{MOST_PARTS}

pub record CellRanges : Type 0 where
  pub firms : HIGHEST_FIRM ≡ 65535
  pub days : HIGHEST_DAY ≡ 65535
  pub identifiers : HIGHEST_IDENTIFIER ≡ 999999999
  pub investors : HIGHEST_INVESTOR ≡ 999999999999
  pub tags : HIGHEST_TAG ≡ 255
  pub parts : MOST_PARTS ≡ 16
