-- The texts of the cells so far, and of one cell more.
use Rattle.std.proofs.Common.{◌≡◌, ℕ, ◌+◌, ◌<◌, ◌≤◌, true, List, [], ◌∷◌, ◌++◌, length, map, get_or, take, None, ap, ◌∙◌, append-nil}
use Rattle.std.proofs.lemmas.List.{take_more, map-append}
use Rattle.std.proofs.lemmas.List.Folds.{concat-append}
use Rattle.std.proofs.lemmas.List.Sums.{AllPass-from_list_all}
use Rattle.std.specs.List.{concat, list_all}
use Rattle.sheet_writer.specs.declared.cell.Cell.{Cell}
use Rattle.sheet_writer.specs.declared.cell.Cell.TheVariants.{Number}
use Rattle.sheet_writer.specs.CellTexts.{text, has_room}
use Rattle.sheet_writer.proofs.DigitsReadBack.{text_short}

module _ (cells : List Cell) (i : ℕ) (h : i < length cells) where
  -- the cell at an index
  abbrev at : Cell
  at = get_or cells i (Number None)

  more : map text (take (i + 1) cells) ≡ map text (take i cells) ++ text at ∷ []
  more = ap (map text) (take_more cells i (Number None) h) ∙ map-append text (take i cells) (at ∷ [])

  pub lengths_more : map length (map text (take (i + 1) cells)) ≡ map length (map text (take i cells)) ++ length (text at) ∷ []
  lengths_more = ap (map length) more ∙ map-append length (map text (take i cells)) (text at ∷ [])

  pub bytes_more : concat (map text (take (i + 1) cells)) ≡ concat (map text (take i cells)) ++ text at
  bytes_more =
      ap concat more ∙ concat-append (map text (take i cells)) (text at ∷ []) ∙ ap (λ (bs : List ℕ). concat (map text (take i cells)) ++ bs) (append-nil (text at))

  pub short_there : list_all has_room cells ≡ true → length (text at) ≤ 12
  short_there all = text_short at (AllPass-from_list_all has_room cells all i (Number None) h)
