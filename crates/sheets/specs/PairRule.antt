-- The pair rule in its own words, and that a directory is refused for the first pair that breaks
-- it.
use Rattle.std.specs.Prelude.{◌≡◌, ℕ, ◌+◌, ◌<◌, ◌≤◌, List, length, Some, None, Option}
use Rattle.sheets.specs.Layout.{offset_at, ends_at, directory_end, first_misplaced}
use Rattle.sheets.specs.declared.directory.Directory.{Directory}

-- pair k of `count` starts at or after the end of its directory and of the pair before, and ends
-- inside (sheets 2)
pub record KeepsRule (directory : Directory) (bytes : List ℕ) (count k : ℕ) : Type 0 where
  pub behind : directory_end directory count ≤ offset_at directory bytes k
  pub after : (j : ℕ) → j + 1 ≡ k → ends_at directory bytes j ≤ offset_at directory bytes k
  pub inside : ends_at directory bytes k ≤ length bytes

-- none: all pairs keep the rule; some, counted from 1: that one breaks it, and those before it keep
-- it (sheets 2)
abbrev pub FirstBreaking : Directory → List ℕ → (count : ℕ) → Option ℕ → Type 0
FirstBreaking directory bytes count None = (k : ℕ) → k < count → KeepsRule directory bytes count k
FirstBreaking directory bytes count (Some pair) =
    (k : ℕ) × (k + 1 ≡ pair) × (k < count) × (KeepsRule directory bytes count k → ⊥)
    × ((j : ℕ) → j < k → KeepsRule directory bytes count j)

-- of sheets and of rows alike (sheets 2)
unfoldable pub PairRule : Type 0
PairRule =
    (directory : Directory) (bytes : List ℕ) (count : ℕ)
    → FirstBreaking directory bytes count (first_misplaced directory bytes count)
