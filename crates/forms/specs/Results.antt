-- Readings that may be refused, one after another.
use Rattle.std.specs.Prelude.{Result, Ok, Err}

-- the first refusal ends the reading
abbrev pub and_then : {A B E : Type 0} → Result A E → (A → Result B E) → Result B E
and_then (Ok value) next = next value
and_then (Err refusal) next = Err refusal
