-- A number within bounds that its type holds reads as itself.
use Rattle.std.proofs.Common.{arith, ◌≡◌, ℕ, ◌^◌, ◌<◌, Result}
use Rattle.std.specs.Prelude.{pos, unsigned_abs}
use Rattle.std.specs.Int.{FitsUnsignedBits}
use Rattle.std.specs.Result.{OkIff, result_ok}
use Rattle.std.proofs.lemmas.Grind.{common_steps}
use Rattle.forms.specs.declared.refusal.Refusal.{Refusal}
use Rattle.forms.specs.Results.{and_then}
use Rattle.validation.specs.Cells.{in_range, number_in}

pub reads_as : {E : Type 0} (bits low high at v : ℕ) {x : Result ℕ Refusal} → (r : Result ℕ E) × OkIff r (FitsUnsignedBits bits (pos v)) (unsigned_abs (pos v)) × (x ≡ and_then (number_in low high at v) (λ w. in_range at (result_ok r))) → high < 2 ^ bits → x ≡ number_in low high at v
reads_as bits low high at v e b = grind (arith, common_steps)
