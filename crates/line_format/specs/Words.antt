-- The words of a line (lines 1).
use Rattle.std.specs.Prelude.{ℕ, ◌+◌, ◌≤◌, Bool, not, ◌&&◌, ◌||◌, List, drop, ◌==◌}
use Rattle.std.specs.List.{prefix_len}
use Rattle.line_format.specs.declared.words.ByteRun.{ByteRun}
use Rattle.line_format.specs.declared.words.ByteRun.TheVariants.{Blanks, Word, Name}
use Rattle.line_format.specs.declared.words.Word as word
use Rattle.line_format.specs.declared.words.BadWord.{BadWord}
use Rattle.line_format.specs.declared.words.TheConstants.{SPACE, TAB, RETURN, HASH, EQUALS}

-- a blank: a space, a tab or a carriage return (lines 1)
abbrev pub is_space : ℕ → Bool
is_space byte = byte == SPACE || byte == TAB || byte == RETURN

-- the bytes of a run: blanks; a word's, which are neither blanks nor '#'; a name's, up to '='
-- (lines 1)
abbrev pub takes : ByteRun → ℕ → Bool
takes Blanks byte = is_space byte
takes Word byte = not (is_space byte) && not (byte == HASH)
takes Name byte = not (byte == EQUALS)

-- the word that starts at an offset
abbrev pub word_from : (line : List ℕ) → (start : ℕ) → word.Word
word_from line start = record { start = start; size = prefix_len (takes Word) (drop start line) }

-- the word that follows the blanks at an offset; of no bytes at the end of the line, and at a
-- comment (lines 1)
abbrev pub next_word : (line : List ℕ) → (at : ℕ) → word.Word
next_word line at = word_from line (at + prefix_len (takes Blanks) (drop at line))

-- the word that a line is refused for: where it begins, from 1, and how many bytes it has (lines 1)
abbrev pub bad_word : word.Word → BadWord
bad_word word = record { place = word.start + 1; length = word.size }

-- a word has bytes, and all of them are in its line of `size` bytes
pub record WordInLine (size : ℕ) (word : word.Word) : Type 0 where
  pub some : 1 ≤ word.size
  pub inside : word.start + word.size ≤ size

-- the same of the word that a line is refused for
pub record InsideLine (size : ℕ) (word : BadWord) : Type 0 where
  pub from_1 : 1 ≤ word.place
  pub some : 1 ≤ word.length
  pub inside : word.place + word.length ≤ size + 1
