-- What a tape means: its lines, the latest first, and how many it takes (rules 1, 16).
use Rattle.std.specs.Prelude.{ℕ, ◌-◌, List, [], ◌∷◌, length, nat_lt, if◌then◌else◌}
use Rattle.tapes.specs.declared.line.Line.{Line}

-- the lines of a tape, the latest first, and the most that it takes
pub record Log : Type 0 where
  pub lines : List Line
  pub limit : ℕ

-- an empty tape for so many lines (rules 6)
abbrev pub empty_log : (limit : ℕ) → Log
empty_log limit = record { lines = []; limit = limit }

-- how many more lines it takes (rules 7)
abbrev pub free_lines : Log → ℕ
free_lines log = log.limit - length log.lines

-- one line more, or the same where the tape is full (rules 1)
abbrev pub line_added : Line → Log → Log
line_added line log =
    record log {
      lines = if nat_lt (length log.lines) log.limit then line ∷ log.lines else log.lines;
    }
