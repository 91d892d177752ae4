-- The parts that a directory names, as they are stored until they are packed.
use Rattle.std.specs.Prelude.{◌≡◌, ℕ, ◌+◌, List, [], ◌∷◌, ◌++◌, length, map, vec_items, vec_len}
use Rattle.std.specs.List.{concat}
use Rattle.sheets.specs.Layout.{directory_end}
use Rattle.sheets.specs.declared.directory.Directory.{Directory}
use Rattle.sheet_writer.specs.declared.parts.Parts.{Parts}
use Rattle.sheet_writer.specs.PackedParts.{laid_out}

-- these parts are stored: for which directory, how long each is, and their bytes
abbrev pub Packs : Directory → (parts : List (List ℕ)) → Parts → Type 0
Packs directory parts stored =
    (stored.directory ≡ directory)
    × (vec_items stored.lengths ≡ map length parts)
    × (vec_items stored.bytes ≡ concat parts)

-- how many bytes the directory and its parts have with one part more
abbrev pub size_with : Parts → (part : List ℕ) → ℕ
size_with stored part =
    directory_end stored.directory (vec_len stored.lengths + 1) + vec_len stored.bytes + length part

-- a part joins the others at the end
pub record PartAdded (old new : Parts) (part : List ℕ) : Type 0 where
  pub lengths : vec_items new.lengths ≡ vec_items old.lengths ++ length part ∷ []
  pub bytes : vec_items new.bytes ≡ vec_items old.bytes ++ part

-- the same parts
pub record SameParts (old new : Parts) : Type 0 where
  pub lengths : vec_items new.lengths ≡ vec_items old.lengths
  pub bytes : vec_items new.bytes ≡ vec_items old.bytes

-- a head, the directory of the parts, and the parts
abbrev pub bytes_behind : (head : List ℕ) → Parts → List ℕ
bytes_behind head stored =
    laid_out stored.directory head (vec_items stored.lengths) (vec_items stored.bytes)
