-- What becomes of the rows when slots are read and written.
use Rattle.std.proofs.Common.{◌≡◌, ℕ, zero, suc, ◌+◌, ◌-◌, ◌<◌, ◌≤◌, Bool, true, false, cond, not, nat_lt, List, [], ◌∷◌, ◌++◌, length, get_or, take, drop, set, reverse, is_some, is_none, Some, None, Option, sym, refl, ap, ◌∙◌, arith}
use Rattle.std.specs.List.{prefix_len, position, position_from, enumerate_from, filter_map, remove, slice_get}
use Rattle.std.specs.Option.{option_map}
use Rattle.std.proofs.lemmas.Bool.{false≢true, lt-ltb, le-ltb, ltb-true, ltb-false}
use Rattle.std.proofs.lemmas.Grind.{reverse_onto}
use Rattle.std.proofs.lemmas.Iterator.Adapters.{position_from-zero}
use Rattle.std.proofs.lemmas.List.{take_all, take-take, length-take-le, reverse-reverse, take-append-drop, take-append-le, length-append, length-reverse}
use Rattle.std.proofs.lemmas.List.Elements.{filter_map-append}
use Rattle.orders.specs.declared.rank.Rank.{Rank}
use Rattle.orders.specs.Ranks.{ranks_ahead}
use Rattle.books.specs.RankedLists.{rank_index}
use Rattle.slots.specs.SlotContents.{slot_rows, not_behind, SlotOfIndex, IsSlotOfIndex}

pub rows_append : {X : Type 0} (a b : List (Option X)) → slot_rows (a ++ b) ≡ slot_rows a ++ slot_rows b
rows_append a b = filter_map-append (λ s. s) a b

pub rows_split : {X : Type 0} (ss : List (Option X)) (i : ℕ) → slot_rows ss ≡ slot_rows (take i ss) ++ slot_rows (drop i ss)
rows_split ss i = ap slot_rows (sym (take-append-drop i ss)) ∙ rows_append (take i ss) (drop i ss)

pub rows_le : {X : Type 0} (ss : List (Option X)) → length (slot_rows ss) ≤ length ss
rows_le [] = omega arith
rows_le (None ∷ ss) = omega (arith, rows_le ss)
rows_le (Some x ∷ ss) = omega (arith, rows_le ss)

-- where no slot is free, and where one is
all_taken : {X : Type 0} (i : ℕ) (ss : List (Option X)) → position_from is_none i ss ≡ None → length (slot_rows ss) ≡ length ss
all_taken i [] h = refl
all_taken i (None ∷ ss) h = let z : ◌≡◌ {A = ℕ} 0 1 = cc in absurd (omega arith)
all_taken i (Some x ∷ ss) h = ap suc (all_taken (i + 1) ss h)

taken : {X : Type 0} (ss : List (Option X)) → position is_none ss ≡ None → length (slot_rows ss) ≡ length ss
taken ss h = all_taken 0 ss (sym (position_from-zero is_none ss) ∙ h)

rows_reverse : {X : Type 0} (ss : List (Option X)) → length (slot_rows (reverse ss)) ≡ length (slot_rows ss)
rows_reverse [] = refl
rows_reverse (None ∷ ss) = rw (reverse_onto ss None [], rows_append (reverse ss) (None ∷ []), length-append) (omega (arith, rows_reverse ss))
rows_reverse (Some x ∷ ss) = rw (reverse_onto ss (Some x) [], rows_append (reverse ss) (Some x ∷ []), length-append) (omega (arith, rows_reverse ss))

pub none_free : {X : Type 0} (ss : List (Option X)) (gap : ℕ) → position is_none (reverse (take gap ss)) ≡ None →
    position is_none (drop gap ss) ≡ None → length (slot_rows ss) ≡ length ss
none_free ss gap before behind =
    let a : length (slot_rows (take gap ss)) ≡ length (take gap ss) = sym (rows_reverse (take gap ss)) ∙ taken (reverse (take gap ss)) before ∙ length-reverse (take gap ss) in
    let b : length (slot_rows (drop gap ss)) ≡ length (drop gap ss) = taken (drop gap ss) behind in
    ap length (rows_split ss gap) ∙ length-append (slot_rows (take gap ss)) (slot_rows (drop gap ss))
    ∙ omega (arith, a, b, length-append (take gap ss) (drop gap ss), ap length (take-append-drop gap ss))

pub one_free : {X : Type 0} (ss : List (Option X)) (i : ℕ) → i < length ss → get_or ss i None ≡ None → length (slot_rows ss) < length ss
one_free [] i l h = absurd (omega arith)
one_free (None ∷ ss) i l h = omega (arith, rows_le ss)
one_free (Some x ∷ ss) zero l h = let z : ◌≡◌ {A = ℕ} 0 1 = cc in absurd (omega arith)
one_free (Some x ∷ ss) (suc i) l h = omega (arith, one_free ss i (omega arith) h)

-- the slots of the rows, counted from k
abbrev pub slots_from : {X : Type 0} → ℕ → List (Option X) → List ℕ
slots_from k ss = filter_map (λ p. option_map (λ _. p.0) p.1) (enumerate_from k ss)

-- the slot of the row at a position, and where there is none
nth_slot : {X : Type 0} (k : ℕ) (ss : List (Option X)) (index i : ℕ) → Some i ≡ slice_get (slots_from k ss) index → (j : ℕ) × (i ≡ k + j) × IsSlotOfIndex ss index j
nth_slot k [] index i h = let z : ◌≡◌ {A = ℕ} 0 1 = cc in absurd (omega arith)
nth_slot k (None ∷ ss) index i h =
    let r = nth_slot (k + 1) ss index i h in
    (suc r.0, omega (arith, r.1), record { within = omega (arith, r.2.within); taken = r.2.taken; count_before = r.2.count_before })
nth_slot k (Some x ∷ ss) zero i h = let e : i ≡ k = cc in (0, omega (arith, e), record { within = omega arith; taken = refl; count_before = refl })
nth_slot k (Some x ∷ ss) (suc index) i h =
    let r = nth_slot (k + 1) ss index i h in
    (suc r.0, omega (arith, r.1), record { within = omega (arith, r.2.within); taken = r.2.taken; count_before = ap suc r.2.count_before })

no_slot : {X : Type 0} (k : ℕ) (ss : List (Option X)) (index : ℕ) → None ≡ slice_get (slots_from k ss) index → length (slot_rows ss) ≤ index
no_slot k [] index h = omega arith
no_slot k (None ∷ ss) index h = no_slot (k + 1) ss index h
no_slot k (Some x ∷ ss) zero h = let z : ◌≡◌ {A = ℕ} 0 1 = cc in absurd (omega arith)
no_slot k (Some x ∷ ss) (suc index) h = omega (arith, no_slot (k + 1) ss index h)

pub slot_of_index : {X : Type 0} (ss : List (Option X)) (index : ℕ) (r : Option ℕ) → r ≡ slice_get (slots_from 0 ss) index → SlotOfIndex ss index r
slot_of_index ss index None h = no_slot 0 ss index h
slot_of_index ss index (Some i) h = let r = nth_slot 0 ss index i h in let e : i ≡ r.0 = omega (arith, r.1) in rw e r.2

-- the row in a taken slot; another one in it, and none
pub row_of_slot : {X : Type 0} (ss : List (Option X)) (i : ℕ) → i < length ss → is_some (get_or ss i None) ≡ true →
    get_or ss i None ≡ slice_get (slot_rows ss) (length (slot_rows (take i ss)))
row_of_slot [] i l t = absurd (omega arith)
row_of_slot (None ∷ ss) zero l t = absurd (false≢true t)
row_of_slot (Some x ∷ ss) zero l t = refl
row_of_slot (None ∷ ss) (suc i) l t = row_of_slot ss i (omega arith) t
row_of_slot (Some x ∷ ss) (suc i) l t = row_of_slot ss i (omega arith) t

pub rows_set : {X : Type 0} (ss : List (Option X)) (i : ℕ) (y : X) → i < length ss → is_some (get_or ss i None) ≡ true →
    slot_rows (set ss i (Some y)) ≡ set (slot_rows ss) (length (slot_rows (take i ss))) y
rows_set [] i y l t = absurd (omega arith)
rows_set (None ∷ ss) zero y l t = absurd (false≢true t)
rows_set (Some x ∷ ss) zero y l t = refl
rows_set (None ∷ ss) (suc i) y l t = rows_set ss i y (omega arith) t
rows_set (Some x ∷ ss) (suc i) y l t = ap (λ (l : List _). x ∷ l) (rows_set ss i y (omega arith) t)

pub rows_freed : {X : Type 0} (ss : List (Option X)) (i : ℕ) → i < length ss → is_some (get_or ss i None) ≡ true →
    slot_rows (set ss i None) ≡ remove (slot_rows ss) (length (slot_rows (take i ss)))
rows_freed [] i l t = absurd (omega arith)
rows_freed (None ∷ ss) zero l t = absurd (false≢true t)
rows_freed (Some x ∷ ss) zero l t = refl
rows_freed (None ∷ ss) (suc i) l t = rows_freed ss i (omega arith) t
rows_freed (Some x ∷ ss) (suc i) l t = ap (λ (l : List _). x ∷ l) (rows_freed ss i (omega arith) t)

-- one more in front
take_one : {A : Type 0} (n : ℕ) (x : A) (xs : List A) → take (1 + n) (x ∷ xs) ≡ x ∷ take n xs
take_one n x xs = let e : 1 + n ≡ suc n = omega arith in ap (λ k. take k (x ∷ xs)) e

lt_one : (n m : ℕ) → nat_lt (1 + n) (suc m) ≡ nat_lt n m
lt_one n m = one (nat_lt n m) refl
  where
    one : (b : Bool) → nat_lt n m ≡ b → nat_lt (1 + n) (suc m) ≡ b
    one true e = lt-ltb (1 + n) (suc m) (omega (arith, ltb-true n m e))
    one false e = le-ltb (1 + n) (suc m) (omega (arith, ltb-false n m e))

-- a test p of slots that free ones pass, and q of their rows: as many rows come before the first slot that fails as before the first row that fails
pub rows_before_failing : {X : Type 0} (p : Option X → Bool) (q : X → Bool) → p None ≡ true → ((x : X) → p (Some x) ≡ q x) → (ss : List (Option X)) →
    length (slot_rows (take (prefix_len p ss) ss)) ≡ prefix_len q (slot_rows ss)
rows_before_failing p q free row [] = refl
rows_before_failing p q free row (None ∷ ss) = rw free (ap (λ l. length (slot_rows l)) (take_one (prefix_len p ss) None ss) ∙ rows_before_failing p q free row ss)
rows_before_failing p q free row (Some x ∷ ss) = rw (row x) (one (q x) (rows_before_failing p q free row ss))
  where
    one : (b : Bool) → length (slot_rows (take (prefix_len p ss) ss)) ≡ prefix_len q (slot_rows ss) →
        length (slot_rows (take (cond b (1 + prefix_len p ss) 0) (Some x ∷ ss))) ≡ cond b (1 + prefix_len q (slot_rows ss)) 0
    one true e = ap (λ l. length (slot_rows l)) (take_one (prefix_len p ss) (Some x) ss) ∙ omega (arith, e)
    one false e = refl

-- and some slot fails exactly where some row does
pub some_slot_fails : {X : Type 0} (p : Option X → Bool) (q : X → Bool) → p None ≡ true → ((x : X) → p (Some x) ≡ q x) → (ss : List (Option X)) →
    nat_lt (prefix_len p ss) (length ss) ≡ nat_lt (prefix_len q (slot_rows ss)) (length (slot_rows ss))
some_slot_fails p q free row [] = refl
some_slot_fails p q free row (None ∷ ss) = rw free (lt_one (prefix_len p ss) (length ss) ∙ some_slot_fails p q free row ss)
some_slot_fails p q free row (Some x ∷ ss) = rw (row x) (one (q x) (some_slot_fails p q free row ss))
  where
    one : (b : Bool) → nat_lt (prefix_len p ss) (length ss) ≡ nat_lt (prefix_len q (slot_rows ss)) (length (slot_rows ss)) →
        nat_lt (cond b (1 + prefix_len p ss) 0) (suc (length ss)) ≡ nat_lt (cond b (1 + prefix_len q (slot_rows ss)) 0) (suc (length (slot_rows ss)))
    one true e = lt_one (prefix_len p ss) (length ss) ∙ e ∙ sym (lt_one (prefix_len q (slot_rows ss)) (length (slot_rows ss)))
    one false e = lt-ltb 0 (suc (length ss)) (omega arith) ∙ sym (lt-ltb 0 (suc (length (slot_rows ss))) (omega arith))

-- without free slots at the end there are as many rows; the list is reversed
rows_before_free : {X : Type 0} (ss : List (Option X)) (k : ℕ) → k ≤ prefix_len is_none ss → length (slot_rows (take (length ss - k) (reverse ss))) ≡ length (slot_rows (reverse ss))
rows_before_free ss zero h = ap (λ l. length (slot_rows l)) (take_all (length ss - 0) (reverse ss) (omega (arith, length-reverse ss)))
rows_before_free [] (suc k) h = absurd (omega arith)
rows_before_free (Some x ∷ ss) (suc k) h = absurd (omega arith)
rows_before_free (None ∷ ss) (suc k) h =
    let n : suc (length ss) - suc k ≡ length ss - k = omega arith in
    rw (reverse_onto ss None [], rows_append (reverse ss) (None ∷ []), length-append)
    (ap (λ l. length (slot_rows l)) (ap (λ n. take n (reverse ss ++ (None ∷ []))) n ∙ take-append-le (length ss - k) (reverse ss) (None ∷ []) (omega (arith, length-reverse ss)))
    ∙ rows_before_free ss k (omega (arith, h)) ∙ omega arith)

-- a gap in the middle of the free slots where these rows end
pub rows_to_middle : {X : Type 0} (f : X → Rank) (k : Rank) (ss : List (Option X)) (to n : ℕ) → to ≡ prefix_len (not_behind f k) ss → to ≤ length ss →
    n ≤ prefix_len is_none (reverse (take to ss)) → length (slot_rows (take (to - n) ss)) ≡ rank_index f k (slot_rows ss)
rows_to_middle f k ss to n e l h =
    let ts : List (Option _) = take to ss in
    let b : length (slot_rows (take (length (reverse ts) - n) (reverse (reverse ts)))) ≡ length (slot_rows (reverse (reverse ts))) = rows_before_free (reverse ts) n h in
    let m : length (reverse ts) ≡ to = length-reverse ts ∙ length-take-le to ss l in
    ap (λ l. length (slot_rows l)) (sym (take-take (to - n) to ss (omega arith)))
    ∙ ap (λ j. length (slot_rows (take (j - n) ts))) (sym m)
    ∙ ap (λ l. length (slot_rows (take (length (reverse ts) - n) l))) (sym (reverse-reverse ts))
    ∙ b ∙ ap (λ l. length (slot_rows l)) (reverse-reverse ts)
    ∙ ap (λ j. length (slot_rows (take j ss))) e ∙ rows_before_failing (not_behind f k) (λ x. not (ranks_ahead k (f x))) refl (λ x. refl) ss
