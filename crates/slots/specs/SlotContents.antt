-- What slots hold, and what a store of slots means (rules 5).
use Rattle.std.specs.Prelude.{◌≡◌, ℕ, ◌<◌, ◌≤◌, Bool, true, not, List, length, get_or, take, is_some, Some, None, Option, slice_index_or}
use Rattle.std.specs.List.{filter_map}
use Rattle.std.proofs.Common.{arith}
use Rattle.std.proofs.lemmas.List.{length-take}
use Rattle.orders.specs.declared.rank.Rank.{Rank}
use Rattle.orders.specs.Ranks.{ranks_ahead}
use Rattle.books.specs.Contents.{Contents}
use Rattle.slots.specs.declared.store.TheConstants.{SLOTS}

-- the rows of the taken slots, in order
abbrev pub slot_rows : {X : Type 0} → List (Option X) → List X
slot_rows slots = filter_map (λ slot. slot) slots

-- a slot that a rank goes behind: a free one, or one whose row the rank is not ahead of
abbrev pub not_behind : {X : Type 0} → (X → Rank) → Rank → Option X → Bool
not_behind rank_of rank None = true
not_behind rank_of rank (Some row) = not (ranks_ahead rank (rank_of row))

-- a slot is taken, and so many taken ones come before it
pub record IsSlotOfIndex {X : Type 0} (slots : List (Option X)) (index slot : ℕ) : Type 0 where
  pub within : slot < length slots
  pub taken : is_some (slice_index_or slots slot None) ≡ true
  pub count_before : length (slot_rows (take slot slots)) ≡ index

-- the slot of the row at a position, if there is one
abbrev pub SlotOfIndex : {X : Type 0} → List (Option X) → (index : ℕ) → Option ℕ → Type 0
SlotOfIndex slots index (Some slot) = IsSlotOfIndex slots index slot
SlotOfIndex slots index None = length (slot_rows slots) ≤ index

-- a slot is free
pub record IsFreeSlot {X : Type 0} (slots : List (Option X)) (slot : ℕ) : Type 0 where
  pub within : slot < length slots
  pub free : get_or slots slot None ≡ None

-- a free slot, if there is one
abbrev pub FreeSlot : {X : Type 0} → List (Option X) → Option ℕ → Type 0
FreeSlot slots (Some slot) = IsFreeSlot slots slot
FreeSlot slots None = length (slot_rows slots) ≡ length slots

-- what a store means: the rows of its slots, of which it has 32 (rules 5)
abbrev pub slot_contents : {X : Type 0} → List (Option X) → Contents X
slot_contents slots = record {
  rows = take SLOTS (slot_rows slots);
  capacity = SLOTS;
  count_within = at_most SLOTS (slot_rows slots);
  capacity_within = omega arith;
}
  where
    at_most : {X : Type 0} (n : ℕ) (xs : List X) → length (take n xs) ≤ n
    at_most n xs = simp length-take (omega arith)
