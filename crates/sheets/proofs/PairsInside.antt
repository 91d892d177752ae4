-- Where no pair of a directory is misplaced, each ends inside.
use Rattle.std.proofs.Common.{◌≡◌, ℕ, zero, suc, ◌+◌, ◌<◌, ◌≤◌, List, length, Some, None, Option, refl, ap, ◌∙◌, ⊎_elim, arith}
use Rattle.std.proofs.lemmas.Bool.{cases_eq}
use Rattle.std.proofs.lemmas.Bool.Decides.{nat_tests}
use Rattle.sheets.specs.Layout.{offset_at, ends_at, pair_end, first_misplaced_from}
use Rattle.sheets.specs.declared.directory.Directory.{Directory}

module _ (d : Directory) (bs : List ℕ) where
  -- where a search finds no misplaced pair, its first pair is not misplaced, and a search from the
  -- end of that pair finds none
  pub placed_first : (n k least : ℕ) → first_misplaced_from d bs (suc n) k least ≡ None
      → (pair_end d bs k least ≡ Some (ends_at d bs k)) × (first_misplaced_from d bs n (k + 1) (ends_at d bs k) ≡ None)
  placed_first n k least e = both (pair_end d bs k least) refl e
    where
      both : (o : Option ℕ) → pair_end d bs k least ≡ o
          → ◌≡◌ {A = Option ℕ} (elim o [ Some x ↦ first_misplaced_from d bs n (k + 1) x | None ↦ Some (k + 1) ]) None
          → (pair_end d bs k least ≡ Some (ends_at d bs k)) × (first_misplaced_from d bs n (k + 1) (ends_at d bs k) ≡ None)
      both (Some x) p q =
          let same : x ≡ ends_at d bs k = grind (arith, nat_tests) in
          (p ∙ ap Some same, rw same at q)
      both None p q = cc

  -- a pair that is not misplaced starts where it may, and ends inside
  pub keeps : (k least : ℕ) → pair_end d bs k least ≡ Some (ends_at d bs k)
      → (least ≤ offset_at d bs k) × (ends_at d bs k ≤ length bs)
  keeps k least p = (grind (arith, nat_tests), grind (arith, nat_tests))

  -- where no pair is misplaced, each ends inside
  pub inside : (n k least : ℕ) → first_misplaced_from d bs n k least ≡ None → (j : ℕ) → k ≤ j → j < k + n → ends_at d bs j ≤ length bs
  inside zero k least e j l h = absurd (omega arith)
  inside (suc n) k least e j l h =
      let p = placed_first n k least e in
      ⊎_elim (λ q. rw q (keeps k least p.0).1)
      (λ q. let less : k < j = omega arith in inside n (k + 1) (ends_at d bs k) p.1 j (omega arith) (omega arith))
      (cases_eq j k)
