use Rattle.std.proofs.Common.{◌≡◌, ℕ, ◌+◌, ◌-◌, ◌≤◌, length}
use Rattle.line_format.specs.Lines.{read_words, cells_from}
use Rattle.line_format.proofs.line.read_words.Given as goal

-- n words read from here, no fewer than there are bytes left, fill the cells as all words of the
-- line do
abbrev pub invariant-loop-word : goal.invariant-loop-word
invariant-loop-word l =
    (l.at ≤ length l.line) × (n : ℕ) × (length l.line ≤ l.at + n)
    × (read_words n l.letter l.line l.at l.cells.values ≡ cells_from l.letter l.line l.from)

abbrev pub decreases-loop-word : goal.decreases-loop-word
decreases-loop-word l = length l.line - l.at
