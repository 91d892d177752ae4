-- The digits at the front of a cell, and the front of a cell with other bytes after it.
use Rattle.std.specs.Char.{is_ascii_digit}
use Rattle.std.proofs.Common.{◌≡◌, ℕ, ◌+◌, ◌-◌, ◌<◌, ◌≤◌, true, false, List, ◌++◌, length, get_or, take, sym, ap, ◌∙◌, arith}
use Rattle.std.proofs.lemmas.List.{length-take, length-take-le, length-append, get_or-take, get_or_append_left, get_or-append_right}
use Rattle.std.proofs.lemmas.List.Sums.{prefix_len-le-length, prefix_len_passes, prefix_len_stops}
use Rattle.sheets.specs.Cells.{digits}

module _ (most : ℕ) (bs : List ℕ) where
  pub within_most : digits most bs ≤ most
  within_most = omega (arith, prefix_len-le-length is_ascii_digit (take most bs), length-take most bs)

  pub within_cell : digits most bs ≤ length bs
  within_cell = omega (arith, prefix_len-le-length is_ascii_digit (take most bs), length-take most bs)

  pub digit_at : (i : ℕ) → i < digits most bs → is_ascii_digit (get_or bs i 0) ≡ true
  digit_at i h =
      let m : i < most = omega (arith, within_most) in
      ap is_ascii_digit (sym (get_or-take most bs i 0 m)) ∙ prefix_len_passes is_ascii_digit (take most bs) i 0 h

  pub stops_at : digits most bs < most → digits most bs < length bs → is_ascii_digit (get_or bs (digits most bs) 0) ≡ false
  stops_at h l =
      ap is_ascii_digit (sym (get_or-take most bs (digits most bs) 0 h))
      ∙ prefix_len_stops is_ascii_digit (take most bs) 0 (omega (arith, length-take most bs))

-- the first n bytes with others after them
module _ (bs rest : List ℕ) (n : ℕ) (within : n ≤ length bs) where
  pub length_put : length (take n bs ++ rest) ≡ n + length rest
  length_put = omega (arith, length-append (take n bs) rest, length-take-le n bs within)

  pub front_put : (i : ℕ) → i < n → get_or (take n bs ++ rest) i 0 ≡ get_or bs i 0
  front_put i h =
      get_or_append_left (take n bs) rest 0 i (omega (arith, length-take-le n bs within)) ∙ get_or-take n bs i 0 h

  pub back_put : (i : ℕ) → n ≤ i → get_or (take n bs ++ rest) i 0 ≡ get_or rest (i - n) 0
  back_put i h = get_or-append_right (take n bs) rest n i 0 (length-take-le n bs within) h
