-- What a row put at a gap leaves.
use Rattle.std.proofs.Common.{◌≡◌, ℕ, zero, suc, ◌+◌, ◌-◌, ◌<◌, ◌≤◌, List, [], ◌∷◌, ◌++◌, length, get_or, take, drop, set, Some, None, Option, sym, refl, ap, ◌∙◌, arith}
use Rattle.std.proofs.lemmas.List.{take_more_set, take_at, drop_at, drop-set-lt, drop_more, append_assoc, length-append, length-take-le}
use borrow.Rule.Slice.PartMut.{mid_of, put_mid}
use Rattle.slots.specs.SlotContents.{slot_rows}
use Rattle.slots.proofs.SlotRows.{rows_append, rows_split}

-- the rows of slots, with x between those before and those behind a gap
abbrev pub rows_with : {X : Type 0} → List (Option X) → ℕ → X → List X
rows_with ss gap x = slot_rows (take gap ss) ++ (x ∷ slot_rows (drop gap ss))

-- the free slot is before the gap: the rows between the two move one slot back
pub put_before_gap : {X : Type 0} (ss : List (Option X)) (free gap k : ℕ) (x : X) → k ≡ gap - free → free < gap → gap ≤ length ss → get_or ss free None ≡ None →
    slot_rows (put_mid free k (set ss free (Some x)) (drop 1 (mid_of free k (set ss free (Some x))) ++ take 1 (mid_of free k (set ss free (Some x))))) ≡ rows_with ss gap x
put_before_gap [] free gap k x n a b e = absurd (omega arith)
put_before_gap (s ∷ ss) free zero k x n a b e = absurd (omega arith)
put_before_gap (Some y ∷ ss) zero (suc gap) k x n a b e = let z : ◌≡◌ {A = ℕ} 0 1 = cc in absurd (omega arith)
put_before_gap (None ∷ ss) zero (suc gap) k x n a b e =
    let m : k ≡ suc gap = omega (arith, n) in
    rw (m, rows_append (take gap ss ++ (Some x ∷ [])) (drop gap ss), rows_append (take gap ss) (Some x ∷ []), append_assoc (slot_rows (take gap ss)) (x ∷ []) (slot_rows (drop gap ss))) refl
put_before_gap (None ∷ ss) (suc free) (suc gap) k x n a b e = put_before_gap ss free gap k x (omega (arith, n)) (omega (arith, a)) (omega (arith, b)) e
put_before_gap (Some y ∷ ss) (suc free) (suc gap) k x n a b e = ap (λ (l : List _). y ∷ l) (put_before_gap ss free gap k x (omega (arith, n)) (omega (arith, a)) (omega (arith, b)) e)

-- the gap is at the front: a row in a free slot comes to the front
first : {X : Type 0} (ss : List (Option X)) (free k : ℕ) (x : X) → k ≡ free + 1 → free < length ss → get_or ss free None ≡ None →
    slot_rows ((drop (length (take k (set ss free (Some x))) - 1) (take k (set ss free (Some x))) ++ take (length (take k (set ss free (Some x))) - 1) (take k (set ss free (Some x))))
    ++ drop k (set ss free (Some x))) ≡ x ∷ slot_rows ss
first ss free k x n b e =
    let t : take k (set ss free (Some x)) ≡ take free ss ++ (Some x ∷ []) = rw n (take_more_set ss free (Some x) b) in
    let l : length (take free ss) ≡ free = length-take-le free ss (omega (arith, b)) in
    let m : length (take free ss ++ (Some x ∷ [])) - 1 ≡ free = omega (arith, l, length-append (take free ss) (Some x ∷ [])) in
    rw (t, m, drop_at (take free ss) (Some x ∷ []) free l, take_at (take free ss) (Some x ∷ []) free l, drop-set-lt k ss free (Some x) (omega (arith, n)))
    (ap (λ (l : List _). x ∷ l) (rows_append (take free ss) (drop k ss) ∙ sym (rows_split ss free ∙ rw (drop_more ss free None b, e, n) refl)))

-- the free slot is behind the gap: the rows between the two move one slot on
pub put_behind_gap : {X : Type 0} (ss : List (Option X)) (free gap k : ℕ) (x : X) → k ≡ free + 1 - gap → gap ≤ free → free < length ss → get_or ss free None ≡ None →
    slot_rows (put_mid gap k (set ss free (Some x)) (drop (length (mid_of gap k (set ss free (Some x))) - 1) (mid_of gap k (set ss free (Some x)))
    ++ take (length (mid_of gap k (set ss free (Some x))) - 1) (mid_of gap k (set ss free (Some x))))) ≡ rows_with ss gap x
put_behind_gap [] free gap k x n a b e = absurd (omega arith)
put_behind_gap (s ∷ ss) zero (suc gap) k x n a b e = absurd (omega (arith, a))
put_behind_gap (s ∷ ss) free zero k x n a b e = first (s ∷ ss) free k x (omega (arith, n)) b e
put_behind_gap (None ∷ ss) (suc free) (suc gap) k x n a b e = put_behind_gap ss free gap k x (omega (arith, n)) (omega (arith, a)) (omega (arith, b)) e
put_behind_gap (Some y ∷ ss) (suc free) (suc gap) k x n a b e = ap (λ (l : List _). y ∷ l) (put_behind_gap ss free gap k x (omega (arith, n)) (omega (arith, a)) (omega (arith, b)) e)
