-- One pair more in the search for a misplaced pair.
use Rattle.std.proofs.Common.{◌≡◌, ℕ, suc, ◌+◌, ◌-◌, ◌<◌, List, Some, None, Option, ap, arith}
use Rattle.sheets.specs.Layout.{pair_end, first_misplaced_from}
use Rattle.sheets.specs.declared.directory.Directory.{Directory}

-- the search goes on from the end of a pair that is not misplaced
pub search_more : (d : Directory) (bs : List ℕ) (n k least end : ℕ) → k < n → pair_end d bs k least ≡ Some end
    → first_misplaced_from d bs (n - k) k least ≡ first_misplaced_from d bs (n - (k + 1)) (k + 1) end
search_more d bs n k least end h p =
    let e : n - k ≡ suc (n - (k + 1)) = omega arith in
    rw e (ap (λ (o : Option ℕ). elim o [ Some x ↦ first_misplaced_from d bs (n - (k + 1)) (k + 1) x | None ↦ Some (k + 1) ]) p)
