-- The search for a misplaced pair finds the first pair that breaks the pair rule, and no other.
use Rattle.std.proofs.Common.{◌≡◌, ℕ, zero, suc, ◌+◌, ◌<◌, ◌≤◌, ◌⊎◌, List, length, Some, None, Option, sym, refl, ⊎_elim, add-one, arith}
use Rattle.std.proofs.lemmas.Bool.{cases_eq}
use Rattle.std.proofs.lemmas.Bool.Decides.{nat_tests}
use Rattle.sheets.specs.Layout.{offset_at, ends_at, directory_end, pair_end, first_misplaced_from}
use Rattle.sheets.specs.PairRule.{KeepsRule, FirstBreaking, PairRule}
use Rattle.sheets.specs.declared.directory.Directory.{Directory}

module _ (d : Directory) (bs : List ℕ) (n : ℕ) where
  -- the search has reached pair k: all before it keep the rule, and it may start at `least`
  pub record Reached (k least : ℕ) : Type 0 where
    pub within : k ≤ n
    pub behind : directory_end d n ≤ least
    pub first : k ≡ 0 → least ≡ directory_end d n
    pub before : (j : ℕ) → j + 1 ≡ k → ends_at d bs j ≡ least
    pub kept : (j : ℕ) → j < k → KeepsRule d bs n j

  placed : (k least x : ℕ) → pair_end d bs k least ≡ Some x
      → (x ≡ ends_at d bs k) × (least ≤ offset_at d bs k) × (ends_at d bs k ≤ length bs)
  placed k least x p = (grind (arith, nat_tests), grind (arith, nat_tests), grind (arith, nat_tests))

  misplaced : (k least : ℕ) → pair_end d bs k least ≡ None → (offset_at d bs k < least) ⊎ (length bs < ends_at d bs k)
  misplaced k least p = grind (arith, nat_tests)

  -- a pair that is not misplaced keeps the rule
  here : (k least x : ℕ) → Reached k least → pair_end d bs k least ≡ Some x → KeepsRule d bs n k
  here k least x c p = let s = placed k least x p in record {
    behind = omega (arith, c.behind);
    after = λ j e. omega (arith, c.before j e);
    inside = s.2;
  }

  -- and the search reaches the next one
  next : (k least x : ℕ) → k < n → Reached k least → pair_end d bs k least ≡ Some x → Reached (k + 1) x
  next k least x l c p =
      let s = placed k least x p in
      record {
        within = omega arith;
        behind = omega (arith, c.behind);
        first = λ e. absurd (omega arith);
        before = λ j e. let same : j ≡ k = omega arith in rw same (sym s.0);
        kept = λ j h. ⊎_elim (λ e. rw e (here k least x c p)) (λ e. c.kept j (omega arith)) (cases_eq j k);
      }

  -- a misplaced pair breaks the rule
  breaks : (k least : ℕ) → Reached k least → pair_end d bs k least ≡ None → KeepsRule d bs n k → ⊥
  breaks zero least c p q =
      ⊎_elim (λ h. omega (arith, c.first refl, q.behind)) (λ h. omega (arith, q.inside)) (misplaced zero least p)
  breaks (suc k) least c p q =
      let e : k + 1 ≡ suc k = add-one k in
      ⊎_elim (λ h. omega (arith, c.before k e, q.after k e)) (λ h. omega (arith, q.inside)) (misplaced (suc k) least p)

  -- the search from a pair on, by whether that pair is misplaced
  from_pair : (m k least : ℕ) → k < n → Reached k least
      → ((x : ℕ) → Reached (k + 1) x → FirstBreaking d bs n (first_misplaced_from d bs m (k + 1) x))
      → (o : Option ℕ) → pair_end d bs k least ≡ o
      → FirstBreaking d bs n (elim o [ Some x ↦ first_misplaced_from d bs m (k + 1) x | None ↦ Some (k + 1) ])
  from_pair m k least l c again (Some x) p = again x (next k least x l c p)
  from_pair m k least l c again None p = (k, refl, l, breaks k least c p, c.kept)

  searched : (m k least : ℕ) → k + m ≡ n → Reached k least → FirstBreaking d bs n (first_misplaced_from d bs m k least)
  searched zero k least e c = λ j h. c.kept j (omega arith)
  searched (suc m) k least e c =
      from_pair m k least (omega arith) c (λ x c'. searched m (k + 1) x (omega arith) c') (pair_end d bs k least) refl

pub pair_rule : PairRule
unfolding PairRule
pair_rule d bs n = searched d bs n n 0 (directory_end d n) (omega arith)
    (record { within = omega arith; behind = omega arith; first = λ e. refl; before = λ j e. absurd (omega arith); kept = λ j h. absurd (omega arith) })
