-- The first slot whose row has a number, and how many rows come before it.
use Rattle.std.proofs.Common.{◌≡◌, ℕ, Bool, true, false, cond, not, eqb, nat_lt, List, length, take, Some, None, Option, refl, ap, ◌∙◌}
use Rattle.std.specs.List.{position, prefix_len}
use Rattle.std.specs.Option.{option_map}
use Rattle.books.specs.RankedLists.{before_number, index_of_number}
use Rattle.slots.specs.SlotContents.{slot_rows}
use Rattle.slots.proofs.SlotRows.{rows_before_failing, some_slot_fails}

-- whether a slot's row has a number
abbrev pub has_number : {X : Type 0} → (X → ℕ) → ℕ → Option X → Bool
has_number f n None = false
has_number f n (Some x) = eqb (f x) n

-- the position of the first row with a number: how many rows come before the first slot whose row has it
pub index_by_slot : {X : Type 0} (f : X → ℕ) (n : ℕ) (ss : List (Option X)) →
    option_map (λ i. length (slot_rows (take i ss))) (position (has_number f n) ss) ≡ index_of_number f n (slot_rows ss)
index_by_slot {X = X} f n ss =
    inside (nat_lt (prefix_len p ss) (length ss))
    ∙ ap (λ b. cond b (Some (length (slot_rows (take (prefix_len p ss) ss)))) None) (some_slot_fails p q refl (λ x. refl) ss)
    ∙ ap (λ i. cond (nat_lt (before_number f n (slot_rows ss)) (length (slot_rows ss))) (Some i) None) (rows_before_failing p q refl (λ x. refl) ss)
  where
    p : Option X → Bool
    p s = not (has_number f n s)

    q : X → Bool
    q x = not (eqb (f x) n)

    inside : (b : Bool) → option_map (λ i. length (slot_rows (take i ss))) (cond b (Some (prefix_len p ss)) None) ≡ cond b (Some (length (slot_rows (take (prefix_len p ss) ss)))) None
    inside true = refl
    inside false = refl
