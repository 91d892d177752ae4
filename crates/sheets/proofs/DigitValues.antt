-- Digits, and the number that they write.
use Rattle.std.specs.Char.{is_ascii_digit}
use Rattle.std.proofs.Common.{◌≡◌, ℕ, ◌+◌, ◌*◌, ◌-◌, ◌^◌, ◌<◌, ◌≤◌, Bool, true, false, cond, List, [], ◌∷◌, length, get_or, take, ap, ◌∙◌, refl, one-add, arith}
use Rattle.std.proofs.lemmas.Int.Digits.{digits_value_more}
use Rattle.std.proofs.lemmas.Str.{digit_value_digit}
use Rattle.std.proofs.lemmas.Str.Parse.{digit_at, digits_value_short, numerals_by_value, tells_digits}
use Rattle.std.proofs.lemmas.Bool.Decides.{nat_tests}
use Rattle.std.specs.Char.{digit_value}
use Rattle.std.specs.List.{prefix_len}
use Rattle.std.specs.Str.Parse.{AllDigits, digits_value}

-- what stands at the front is digits
pub front_digits : (xs : List ℕ) → AllDigits 10 (take (prefix_len is_ascii_digit xs) xs)
front_digits [] = tt
front_digits (x ∷ xs) = first (is_ascii_digit x) refl (front_digits xs)
  where
    first : (t : Bool) → is_ascii_digit x ≡ t → AllDigits 10 (take (prefix_len is_ascii_digit xs) xs)
        → AllDigits 10 (take (cond t (1 + prefix_len is_ascii_digit xs) 0) (x ∷ xs))
    first true e more = rw one-add (grind (arith, nat_tests), more)
    first false e more = tt

-- k digits at the most write less than 10 ^ k
pub short : (ds : List ℕ) (k : ℕ) → AllDigits 10 ds → length ds ≤ k → digits_value 10 ds < 10 ^ k
short = digits_value_short (numerals_by_value (AllDigits 10) tells_digits)

-- one digit more
pub value_step : (ds : List ℕ) (i : ℕ) → AllDigits 10 ds → i < length ds
    → digits_value 10 (take (i + 1) ds) ≡ digits_value 10 (take i ds) * 10 + (get_or ds i 0 - 48)
value_step ds i all h =
    let v : digit_value (get_or ds i 0) + 48 ≡ get_or ds i 0 = digit_value_digit (get_or ds i 0) (digit_at ds i all h) in
    digits_value_more 10 ds i h ∙ ap (λ n. digits_value 10 (take i ds) * 10 + n) (omega arith)
