-- What the highest numbers say of the rows of a strip.
use Rattle.std.proofs.Common.{◌≡◌, ℕ, ◌%◌, ◌<◌, ◌≤◌, true, false, nat_le, slice_index, List, length, None, eqb, refl, arith}
use Rattle.std.specs.List.{list_any}
use Rattle.std.proofs.lemmas.Bool.{and_parts, leb-true, leb-false, le-ltb, eqb-true, ne_eqb}
use Rattle.books.specs.RankedLists.{index_of_number}
use Rattle.books.specs.Model.{has_client}
use Rattle.strips.specs.Highest.{not_above, all_not_above}
use Rattle.strips.specs.declared.highest.TheConstants.{CLASSES}
use Rattle.strips.specs.declared.highest.HighestNumbers.{HighestNumbers}
use Rattle.strips.proofs.EachRowPasses.{none_numbered, one_of_each}

module _ {X : Type 0} (num firm client : X → ℕ) (s : HighestNumbers) where
  -- no row has a number above the highest
  pub none_above : (n : ℕ) → nat_le n s.number ≡ false → (xs : List X) → all_not_above num firm client s xs ≡ true → index_of_number num n xs ≡ None
  none_above n h xs e =
      let above : s.number < n = leb-false n s.number h in
      let other : (x : X) → not_above num firm client s x ≡ true → eqb (num x) n ≡ false =
      λ x c. let le : num x ≤ s.number = leb-true (num x) s.number (and_parts _ _ c).0 in let no : num x ≡ n → ⊥ = λ q. omega (arith, q) in ne_eqb (num x) n no in
      rw (none_numbered (not_above num firm client s) num n other xs e, le-ltb (length xs) (length xs) (omega arith)) refl

  -- a client number that a row has is not above the highest of its firm's class
  pub client_not_above : (f k : ℕ) (xs : List X) → all_not_above num firm client s xs ≡ true → list_any (has_client firm client f k) xs ≡ true → nat_le k (slice_index s.clients (f % CLASSES)) ≡ true
  client_not_above f k xs e one = one_of_each (not_above num firm client s) (has_client firm client f k) _
      (λ x c o.
      let both = and_parts (eqb (firm x) f) (eqb (client x) k) o in
      rw (← eqb-true (client x) k both.1, ← eqb-true (firm x) f both.0) (and_parts (nat_le (num x) s.number) (nat_le (client x) (slice_index s.clients (firm x % CLASSES))) c).1) xs e one
