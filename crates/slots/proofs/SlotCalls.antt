-- What the calls of a store of slots answer and leave.
use Rattle.std.proofs.Common.{◌≡◌, ℕ, ◌≤◌, true, ltb, List, ◌∷◌, ◌++◌, length, get_or, take, drop, set, Some, None, Option, sym, ap, refl, ◌∙◌, arith}
use Rattle.std.specs.List.{remove, slice_get}
use Rattle.std.proofs.lemmas.Bool.{lt-ltb}
use Rattle.std.proofs.lemmas.List.{get_or_default, take_all, take_at, drop_at, set_past, length-set}
use Rattle.std.proofs.lemmas.Option.{slice_get_past}
use Rattle.orders.specs.declared.rank.Rank.{Rank}
use Rattle.books.specs.RankedLists.{rank_index, put_by_rank}
use Rattle.books.proofs.RotatedWrites.{removed_past}
use Rattle.slots.specs.declared.store.TheConstants.{SLOTS}
use Rattle.slots.specs.SlotContents.{slot_rows, IsSlotOfIndex, IsFreeSlot}
use Rattle.slots.proofs.SlotRows.{rows_le, rows_split, one_free, row_of_slot, rows_set, rows_freed}

-- all of its rows are within its capacity
pub all_stored : {X : Type 0} (ss : List (Option X)) → length ss ≡ SLOTS → take SLOTS (slot_rows ss) ≡ slot_rows ss
all_stored ss n = take_all SLOTS (slot_rows ss) (omega (arith, rows_le ss))

module _ {X : Type 0} (ss : List (Option X)) (n : length ss ≡ SLOTS) where
  pub put_answers : (i : ℕ) → IsFreeSlot ss i → true ≡ ltb (length (take SLOTS (slot_rows ss))) SLOTS
  put_answers i f = sym (lt-ltb (length (take SLOTS (slot_rows ss))) SLOTS (omega (arith, n, ap length (all_stored ss n), one_free ss i f.within f.free)))

  pub put_leaves : (f : X → Rank) (ts : List (Option X)) → length ts ≡ length ss → (gap : ℕ) (x : X) (k : Rank) → k ≡ f x → length (slot_rows (take gap ss)) ≡ rank_index f k (slot_rows ss) →
      slot_rows ts ≡ slot_rows (take gap ss) ++ (x ∷ slot_rows (drop gap ss)) → take SLOTS (slot_rows ts) ≡ put_by_rank f x (take SLOTS (slot_rows ss))
  put_leaves f ts m gap x k r e h =
      let index = rank_index f (f x) (slot_rows ss) in
      let p : length (slot_rows (take gap ss)) ≡ index = e ∙ ap (λ k. rank_index f k (slot_rows ss)) r in
      let at_place : put_by_rank f x (slot_rows ss) ≡ slot_rows (take gap ss) ++ (x ∷ slot_rows (drop gap ss)) =
      ap (λ l. take index l ++ (x ∷ drop index l)) (rows_split ss gap) ∙ rw (take_at (slot_rows (take gap ss)) (slot_rows (drop gap ss)) index p, drop_at (slot_rows (take gap ss)) (slot_rows (drop gap ss)) index p) refl in
      all_stored ts (m ∙ n) ∙ h ∙ sym at_place ∙ ap (put_by_rank f x) (sym (all_stored ss n))

  module _ (index i : ℕ) (s : IsSlotOfIndex ss index i) where
    pub replace_leaves : (x : X) → take SLOTS (slot_rows (set ss i (Some x))) ≡ set (take SLOTS (slot_rows ss)) index x
    replace_leaves x = all_stored (set ss i (Some x)) (length-set ss i (Some x) ∙ n) ∙ rows_set ss i x s.within s.taken
        ∙ ap (λ k. set (slot_rows ss) k x) s.count_before ∙ ap (λ l. set l index x) (sym (all_stored ss n))

    pub take_answers : (d : Option X) → get_or ss i d ≡ slice_get (take SLOTS (slot_rows ss)) index
    take_answers d = get_or_default ss i d None s.within ∙ row_of_slot ss i s.within s.taken ∙ ap (slice_get (slot_rows ss)) s.count_before ∙ ap (λ l. slice_get l index) (sym (all_stored ss n))

    pub take_leaves : take SLOTS (slot_rows (set ss i None)) ≡ remove (take SLOTS (slot_rows ss)) index
    take_leaves = all_stored (set ss i None) (length-set ss i None ∙ n) ∙ rows_freed ss i s.within s.taken
        ∙ ap (remove (slot_rows ss)) s.count_before ∙ ap (λ l. remove l index) (sym (all_stored ss n))

  -- at a position past the rows
  module _ (index : ℕ) (h : length (slot_rows ss) ≤ index) where
    pub replace_past : (x : X) → take SLOTS (slot_rows ss) ≡ set (take SLOTS (slot_rows ss)) index x
    replace_past x = rw (all_stored ss n) (sym (set_past (slot_rows ss) index x h))

    pub take_past_answers : None ≡ slice_get (take SLOTS (slot_rows ss)) index
    take_past_answers = rw (all_stored ss n) (sym (slice_get_past (slot_rows ss) index h))

    pub take_past_leaves : take SLOTS (slot_rows ss) ≡ remove (take SLOTS (slot_rows ss)) index
    take_past_leaves = rw (all_stored ss n) (removed_past (slot_rows ss) index h)
