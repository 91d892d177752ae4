-- Slots counted one after another by a loop: how many are taken.
use Rattle.std.proofs.Common.{◌≡◌, ℕ, ◌+◌, ◌<◌, ◌≤◌, true, false, List, [], ◌∷◌, length, get_or, take, is_some, Some, None, Option, refl, arith}
use Rattle.std.proofs.lemmas.Bool.{true≢false, false≢true}
use Rattle.std.proofs.lemmas.List.{take_more, length-append, length_push, length-take}
use Rattle.slots.specs.SlotContents.{slot_rows}
use Rattle.slots.proofs.SlotRows.{rows_append, rows_le}

-- one slot more
pub count_taken : {X : Type 0} (ss : List (Option X)) (i : ℕ) (s : Option X) → i < length ss → s ≡ get_or ss i s → is_some s ≡ true →
    length (slot_rows (take (i + 1) ss)) ≡ length (slot_rows (take i ss)) + 1
count_taken ss i (Some x) l e t = rw (take_more ss i (Some x) l, ← e, rows_append (take i ss) (Some x ∷ []), length_push) refl
count_taken ss i None l e t = absurd (false≢true t)

pub count_free : {X : Type 0} (ss : List (Option X)) (i : ℕ) (s : Option X) → i < length ss → s ≡ get_or ss i s → is_some s ≡ false →
    length (slot_rows (take (i + 1) ss)) ≡ length (slot_rows (take i ss))
count_free ss i (Some x) l e t = absurd (true≢false t)
count_free ss i None l e t = rw (take_more ss i None l, ← e, rows_append (take i ss) (None ∷ []), length-append) (omega arith)

pub taken_le : {X : Type 0} (ss : List (Option X)) (i : ℕ) → length (slot_rows (take i ss)) ≤ i
taken_le ss i = omega (arith, rows_le (take i ss), length-take i ss)
