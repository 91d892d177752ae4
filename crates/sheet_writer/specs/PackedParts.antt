-- A directory and the parts that it names, without an unused byte (sheets 1, 2, 3).
use Rattle.std.specs.Prelude.{ℕ, ◌+◌, ◌/◌, ◌%◌, List, [], ◌∷◌, ◌++◌, length, map}
use Rattle.std.specs.List.{concat}
use Rattle.sheets.specs.Layout.{directory_end}
use Rattle.sheets.specs.declared.directory.Directory.{Directory}
use Rattle.sheets.specs.declared.directory.Directory.TheVariants.{Rows, Cells}
use Rattle.sheets.specs.declared.sheet.TheConstants.{MOST_BYTES}
use Rattle.sheet_writer.specs.declared.packing.TheConstants.{MOST_ROW_BYTES}

-- a number in a directory: in a sheet two bytes, the high one first, in a row one (sheets 1, 3)
abbrev pub number_bytes : Directory → ℕ → List ℕ
number_bytes Rows number = number / 256 ∷ number % 256 ∷ []
number_bytes Cells number = number ∷ []

-- the pairs of parts of these lengths, the first from an offset on, and each other from where the
-- one before it ends (sheets 2)
abbrev pub pairs : Directory → (at : ℕ) → (lengths : List ℕ) → List ℕ
pairs directory at [] = []
pairs directory at (first ∷ rest) =
    number_bytes directory at ++ (number_bytes directory first ++ pairs directory (at + first) rest)

-- a head, the pairs of parts of these lengths, and the bytes of all parts (sheets 1, 3)
abbrev pub laid_out : Directory → (head lengths bytes : List ℕ) → List ℕ
laid_out directory head lengths bytes =
    head ++ (pairs directory (directory_end directory (length lengths)) lengths ++ bytes)

-- a head, the pairs of the parts, and the parts (sheets 1, 3)
abbrev pub packed : Directory → (head : List ℕ) → (parts : List (List ℕ)) → List ℕ
packed directory head parts = laid_out directory head (map length parts) (concat parts)

-- the most bytes that a sheet or a row may have, so that its directory can name each part
-- (sheets 1, 3)
abbrev pub most_bytes : Directory → ℕ
most_bytes Rows = MOST_BYTES
most_bytes Cells = MOST_ROW_BYTES
