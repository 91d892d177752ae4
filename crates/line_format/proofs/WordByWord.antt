-- The words of a line, one by one.
use Rattle.std.proofs.Common.{◌≡◌, ℕ, zero, suc, ◌+◌, ◌≤◌, List, length, None, Some, Ok, Err, Option, Result, refl, ap, sym, ◌∙◌, arith}
use Rattle.std.specs.Option.{option_map, ok_or}
use Rattle.std.proofs.lemmas.Bool.{ne_eqb}
use Rattle.sheets.specs.Layout.{part}
use Rattle.sheets.specs.declared.letter.Letter.{Letter}
use Rattle.line_format.specs.declared.cells.Cells.{Cells}
use Rattle.line_format.specs.declared.words.Word.{Word}
use Rattle.line_format.specs.declared.words.BadWord.{BadWord}
use Rattle.line_format.specs.Words.{next_word, bad_word, WordInLine}
use Rattle.line_format.specs.LineCells.{Values, with_word}
use Rattle.line_format.specs.Lines.{or_refused, read_word, read_words}

-- no word is left
pub no_more : (n : ℕ) (letter : Letter) (line : List ℕ) (at : ℕ) (cells : Values) → (next_word line at).size ≡ 0 → read_words n letter line at cells ≡ Ok cells
unfolding read_words
no_more zero letter line at cells z = refl
no_more (suc n) letter line at cells z = rw z refl

-- the words after one that left these cells, unless it was refused
abbrev pub goes_on : Result Cells BadWord → (Values → Result Values BadWord) → Result Values BadWord
goes_on (Ok cells) rest = rest cells.values
goes_on (Err bad) rest = Err bad

filled : (o : Option Cells) (w : Word) (rest : Values → Result Values BadWord)
    → or_refused (option_map (λ (c : Cells). c.values) o) w rest ≡ goes_on (ok_or o (bad_word w)) rest
filled None w rest = refl
filled (Some cells) w rest = refl

one_word : (letter : Letter) (line : List ℕ) (cells : Values) (w : Word) (o : Option Cells) (bad : BadWord) (rest : Values → Result Values BadWord)
    → 1 ≤ w.size → option_map (λ (c : Cells). c.values) o ≡ with_word letter cells (part line w.start w.size) → bad ≡ bad_word w
    → read_word letter line w cells rest ≡ goes_on (ok_or o bad) rest
one_word letter line cells w o bad rest s h b =
    let z : w.size ≡ 0 → ⊥ = omega arith in
    rw (ne_eqb w.size 0 z, ← h, b) (filled o w rest)

-- a word is read, and then those after it: where n is no fewer than the bytes left, one less is no
-- fewer than those left after the word
pub one_more : (n : ℕ) (letter : Letter) (line : List ℕ) (at : ℕ) (cells : Values) (w : Word) (o : Option Cells) (bad : BadWord)
    → w ≡ next_word line at → WordInLine (length line) w → length line ≤ at + n
    → option_map (λ (c : Cells). c.values) o ≡ with_word letter cells (part line w.start w.size) → bad ≡ bad_word w
    → (m : ℕ) × (length line ≤ w.start + w.size + m)
    × (read_words n letter line at cells ≡ goes_on (ok_or o bad) (λ filled. read_words m letter line (w.start + w.size) filled))
unfolding read_words
one_more zero letter line at cells w o bad e i l h b = grind arith
one_more (suc n) letter line at cells w o bad e i l h b = (
  n,
  grind arith,
  ap (λ (v : Word). read_word letter line v cells (λ filled. read_words n letter line (v.start + v.size) filled)) (sym e)
      ∙ one_word letter line cells w o bad _ i.some h b,
)
