-- Number, price and type cells: a value comes from a good cell, and a refusal names the first wrong
-- byte.
use Rattle.std.specs.Char.{is_ascii_digit}
use Rattle.std.proofs.Common.{◌≡◌, ℕ, zero, suc, ◌+◌, ◌-◌, ◌*◌, ◌<◌, ◌≤◌, Bool, true, false, cond, ◌&&◌, eqb, ltb, List, [], ◌∷◌, ◌++◌, length, get_or, take, drop, replicate, Some, None, Ok, Err, sym, refl, ap, ◌∙◌, subst, ⊎_elim, arith, lit≤, ltb-false, ltb-true, eqb-true}
use borrow.Author.Tests.{eqb-false}
use Rattle.std.proofs.lemmas.List.{length-drop, length-replicate, get_or-replicate, get_or-drop, get_or_past, nil_from_length}
use Rattle.std.proofs.lemmas.Bool.{cases_eq, cases_lt, true≢false}
use Rattle.orders.specs.declared.price.Price.{Price}
use Rattle.sheets.specs.Cells.{digits, digits_number, is_blank, read_number, read_price, read_type}
use Rattle.sheets.specs.GoodCells.{GoodNumber, GoodPrice, GoodType, Begins, FirstWrong, ReadByFormat, CellsReadByFormat}
use Rattle.sheets.proofs.FrontDigits.{within_most, within_cell, digit_at, stops_at, length_put, front_put, back_put}

-- a byte is not both a digit and something else
clash : (b : Bool) → b ≡ true → b ≡ false → ⊥
clash b p q = true≢false (sym p ∙ q)

-- zeros are digits
zeros : (k i : ℕ) → i < k → is_ascii_digit (get_or (replicate k 48) i 0) ≡ true
zeros k i h = ap is_ascii_digit (get_or-replicate k i 48 0 h)

module _ (bs : List ℕ) where
  -- a number: n digits stand at its front
  begun_number : (n r : ℕ) → n ≤ digits 12 bs → 1 ≤ n + r → n + r ≤ 12 → GoodNumber (take n bs ++ replicate r 48)
  begun_number n r h some few =
      let w : n ≤ length bs = omega (arith, within_cell 12 bs) in
      let l : length (take n bs ++ replicate r 48) ≡ n + r = omega (arith, length_put bs (replicate r 48) n w, length-replicate {A = ℕ} r 48) in
      record {
        some = omega arith;
        few = omega arith;
        digits = λ i k. ⊎_elim
            (λ less. ap is_ascii_digit (front_put bs (replicate r 48) n w i less) ∙ digit_at 12 bs i (omega arith))
            (λ more. ap is_ascii_digit (back_put bs (replicate r 48) n w i more) ∙ zeros r (i - n) (omega arith))
            (cases_lt i n);
      }

  begins_number : (n : ℕ) → n ≤ digits 12 bs → Begins GoodNumber (take n bs)
  begins_number n h = ⊎_elim
      (λ less. (replicate 1 48, begun_number n 1 h (omega arith) (omega arith)))
      (λ full. (replicate 0 48, begun_number n 0 h (omega arith) (omega (arith, within_most 12 bs))))
      (cases_lt n 12)

  -- no good number has the byte that follows them
  number_ends : digits 12 bs < length bs → (rest : List ℕ) → GoodNumber (take (digits 12 bs + 1) bs ++ rest) → ⊥
  number_ends h rest g =
      let n = digits 12 bs in
      let w : n + 1 ≤ length bs = omega arith in
      let l = length_put bs rest (n + 1) w in
      clash (is_ascii_digit (get_or bs n 0))
      (ap is_ascii_digit (sym (front_put bs rest (n + 1) w n (omega arith))) ∙ g.digits n (omega arith))
      (stops_at 12 bs (omega (arith, g.few)) h)

  number_by_format : ReadByFormat GoodNumber bs (read_number bs)
  number_by_format = by (is_blank bs) (eqb (digits 12 bs) (length bs)) refl refl
    where
      by : (t u : Bool) → is_blank bs ≡ t → eqb (digits 12 bs) (length bs) ≡ u
          → ReadByFormat GoodNumber bs (cond t (Ok None) (cond u (Ok (Some (digits_number 12 bs))) (Err (digits 12 bs + 1))))
      by true u p q = nil_from_length bs (eqb-true (length bs) 0 p)
      by false true p q =
          let e : digits 12 bs ≡ length bs = eqb-true (digits 12 bs) (length bs) q in
          record {
            some = let ne : length bs ≡ 0 → ⊥ = eqb-false (length bs) 0 p in omega arith;
            few = omega (arith, within_most 12 bs);
            digits = λ i h. digit_at 12 bs i (omega arith);
          }
      by false false p q =
          let ne : digits 12 bs ≡ length bs → ⊥ = eqb-false (digits 12 bs) (length bs) q in
          let less : digits 12 bs < length bs = omega (arith, within_cell 12 bs) in
          record {
            right = digits 12 bs;
            counted = refl;
            bad = λ g. clash (is_ascii_digit (get_or bs (digits 12 bs) 0)) (g.digits (digits 12 bs) less)
                (stops_at 12 bs (omega (arith, g.few)) less);
            begins = begins_number (digits 12 bs) (omega arith);
            ends = λ h b. number_ends h b.0 b.1;
          }

-- in a good price every byte before the comma is a digit, and no other byte is a comma
before_comma : (xs : List ℕ) (g : GoodPrice xs) (n : ℕ) → ((i : ℕ) → i < n → is_ascii_digit (get_or xs i 0) ≡ true) → n ≤ g.whole
before_comma xs g n dig = ⊎_elim
    (λ less. absurd (clash (is_ascii_digit (get_or xs g.whole 0)) (dig g.whole less) (ap is_ascii_digit g.comma)))
    (λ more. more) (cases_lt g.whole n)

at_comma : (xs : List ℕ) (g : GoodPrice xs) (n : ℕ) → n < length xs → get_or xs n 0 ≡ 44 → n ≡ g.whole
at_comma xs g n h e = ⊎_elim (λ same. same)
    (λ ne. absurd (clash (is_ascii_digit (get_or xs n 0)) (g.digits n h ne) (ap is_ascii_digit e))) (cases_eq n g.whole)

-- a comma and two digits, after one digit at least
tail : (k : ℕ) → 1 ≤ k → k < 3 → is_ascii_digit (get_or (44 ∷ (48 ∷ (48 ∷ []))) k 0) ≡ true
tail zero some few = absurd (omega arith)
tail (suc zero) some few = refl
tail (suc (suc zero)) some few = refl
tail (suc (suc (suc k))) some few = absurd (omega arith)

least : (i : ℕ) → i < 4 → (i ≡ 1 → ⊥) → is_ascii_digit (get_or (48 ∷ (44 ∷ (48 ∷ (48 ∷ [])))) i 0) ≡ true
least zero h ne = refl
least (suc zero) h ne = absurd (ne refl)
least (suc (suc zero)) h ne = refl
least (suc (suc (suc zero))) h ne = refl
least (suc (suc (suc (suc i)))) h ne = absurd (omega arith)

module _ (bs : List ℕ) where
  -- the whole digits of a price
  begins_whole : Begins GoodPrice (take (digits 6 bs) bs)
  begins_whole = ⊎_elim
      (λ e. let P : ℕ → Type 0 = λ k. Begins GoodPrice (take k bs) in subst P (sym e)
      (48 ∷ (44 ∷ (48 ∷ (48 ∷ []))), record { whole = 1; some = lit≤ tt; few = lit≤ tt; long = refl; comma = refl; digits = least }))
      (λ ne.
      let n = digits 6 bs in
      let rest : List ℕ = 44 ∷ (48 ∷ (48 ∷ [])) in
      let w = within_cell 6 bs in
      let l : length (take n bs ++ rest) ≡ n + 3 = length_put bs rest n w in (
        rest,
        record {
          whole = n;
          some = omega arith;
          few = within_most 6 bs;
          long = omega (arith, l);
          comma = let z : n - n ≡ 0 = omega arith in back_put bs rest n w n (omega arith) ∙ ap (λ k. get_or rest k 0) z;
          digits = λ i h ni. ⊎_elim
              (λ less. ap is_ascii_digit (front_put bs rest n w i less) ∙ digit_at 6 bs i less)
              (λ more. ap is_ascii_digit (back_put bs rest n w i more) ∙ tail (i - n) (omega arith) (omega arith))
              (cases_lt i n);
        },
      ))
      (cases_eq (digits 6 bs) 0)

  -- no good price has the byte that follows them, unless that is the comma
  wrong_whole : (1 ≤ digits 6 bs → get_or bs (digits 6 bs) 0 ≡ 44 → ⊥) → digits 6 bs < length bs
      → (xs : List ℕ) → ((i : ℕ) → i < digits 6 bs + 1 → get_or xs i 0 ≡ get_or bs i 0) → GoodPrice xs → ⊥
  wrong_whole nc h xs same g =
      let n = digits 6 bs in
      let le : n ≤ g.whole = before_comma xs g n (λ i k. ap is_ascii_digit (same i (omega arith)) ∙ digit_at 6 bs i k) in
      ⊎_elim
      (λ e. nc (omega (arith, g.some)) (sym (same n (omega arith)) ∙ ap (λ k. get_or xs k 0) e ∙ g.comma))
      (λ ne. clash (is_ascii_digit (get_or bs n 0))
      (ap is_ascii_digit (sym (same n (omega arith))) ∙ g.digits n (omega (arith, g.long)) ne)
      (stops_at 6 bs (omega (arith, g.few)) h))
      (cases_eq n g.whole)

  wrong_before : (1 ≤ digits 6 bs → get_or bs (digits 6 bs) 0 ≡ 44 → ⊥) → FirstWrong GoodPrice bs (digits 6 bs + 1)
  wrong_before nc = record {
    right = digits 6 bs;
    counted = refl;
    bad = λ g. wrong_whole nc (omega (arith, g.long, before_comma bs g (digits 6 bs) (digit_at 6 bs))) bs (λ i h. refl) g;
    begins = begins_whole;
    ends = λ h b. wrong_whole nc h (take (digits 6 bs + 1) bs ++ b.0)
        (λ i k. front_put bs b.0 (digits 6 bs + 1) (omega arith) i k) b.1;
  }

-- the bytes after the comma of a price, where there is one
abbrev cents : List ℕ → List ℕ
cents bs = drop (digits 6 bs + 1) bs

-- a price with its comma: the digits after it
module _ (bs : List ℕ) (some : 1 ≤ digits 6 bs) (comma : get_or bs (digits 6 bs) 0 ≡ 44) where
  there : digits 6 bs < length bs
  there = ⊎_elim (λ less. less)
      (λ more. absurd (let e = get_or_past bs (digits 6 bs) 0 more in let z : ◌≡◌ {A = ℕ} 44 0 = sym comma ∙ e in omega arith))
      (cases_lt (digits 6 bs) (length bs))

  length_cents : length (cents bs) ≡ length bs - (digits 6 bs + 1)
  length_cents = length-drop (digits 6 bs + 1) bs

  cent_at : (i : ℕ) → digits 6 bs < i → i < digits 6 bs + 1 + digits 2 (cents bs) → is_ascii_digit (get_or bs i 0) ≡ true
  cent_at i l h =
      let n = digits 6 bs in
      let e : n + 1 + (i - (n + 1)) ≡ i = omega arith in
      ap (λ k. is_ascii_digit (get_or bs k 0)) (sym e) ∙ ap is_ascii_digit (sym (get_or-drop (n + 1) bs (i - (n + 1)) 0))
      ∙ digit_at 2 (cents bs) (i - (n + 1)) (omega arith)

  begins_cents : Begins GoodPrice (take (digits 6 bs + 1 + digits 2 (cents bs)) bs)
  begins_cents =
      let n = digits 6 bs in
      let m = digits 2 (cents bs) in
      let rest : List ℕ = replicate (2 - m) 48 in
      let two : m ≤ 2 = within_most 2 (cents bs) in
      let w : n + 1 + m ≤ length bs = omega (arith, within_cell 2 (cents bs), length_cents, there) in
      let l : length (take (n + 1 + m) bs ++ rest) ≡ n + 3 =
      omega (arith, length_put bs rest (n + 1 + m) w, length-replicate {A = ℕ} (2 - m) 48) in (
        rest,
        record {
          whole = n;
          some = some;
          few = within_most 6 bs;
          long = omega (arith, l);
          comma = front_put bs rest (n + 1 + m) w n (omega arith) ∙ comma;
          digits = λ i h ni. ⊎_elim
              (λ less. ap is_ascii_digit (front_put bs rest (n + 1 + m) w i less)
              ∙ ⊎_elim (λ front. digit_at 6 bs i front) (λ more. cent_at i (omega arith) less) (cases_lt i n))
              (λ more. ap is_ascii_digit (back_put bs rest (n + 1 + m) w i more) ∙ zeros (2 - m) (i - (n + 1 + m)) (omega arith))
              (cases_lt i (n + 1 + m));
        },
      )

  wrong_cents : digits 2 (cents bs) < 2
      → digits 6 bs + 1 + digits 2 (cents bs) < length bs
      → (xs : List ℕ) → ((i : ℕ) → i < digits 6 bs + 1 + digits 2 (cents bs) + 1 → get_or xs i 0 ≡ get_or bs i 0)
      → digits 6 bs < length xs → GoodPrice xs → ⊥
  wrong_cents few h xs same long g =
      let n = digits 6 bs in
      let m = digits 2 (cents bs) in
      let e : n ≡ g.whole = at_comma xs g n long (same n (omega arith) ∙ comma) in
      clash (is_ascii_digit (get_or bs (n + 1 + m) 0))
      (ap is_ascii_digit (sym (same (n + 1 + m) (omega arith))) ∙ g.digits (n + 1 + m) (omega (arith, g.long)) (λ k. omega arith))
      (ap is_ascii_digit (sym (get_or-drop (n + 1) bs m 0)) ∙ stops_at 2 (cents bs) few (omega (arith, length_cents)))

  wrong_behind : (digits 2 (cents bs) ≡ 2 → length (cents bs) ≡ 2 → ⊥)
      → FirstWrong GoodPrice bs (digits 6 bs + 1 + digits 2 (cents bs) + 1)
  wrong_behind ne =
      let n = digits 6 bs in
      let m = digits 2 (cents bs) in
      let two : m ≤ 2 = within_most 2 (cents bs) in
      record {
        right = n + 1 + m;
        counted = refl;
        bad = λ g.
            let e : n ≡ g.whole = at_comma bs g n there comma in
            let l : length bs ≡ n + 3 = omega (arith, g.long) in
            let c : length (cents bs) ≡ 2 = omega (arith, length_cents) in
            let less : m < 2 = ⊎_elim (λ k. absurd (ne k c)) (λ k. omega arith) (cases_eq m 2) in
            wrong_cents less (omega arith) bs (λ i h. refl) there g;
        begins = begins_cents;
        ends = λ h b.
            let xs = take (n + 1 + m + 1) bs ++ b.0 in
            let same = λ (i : ℕ) (k : i < n + 1 + m + 1). front_put bs b.0 (n + 1 + m + 1) (omega arith) i k in
            let lx : length xs ≡ n + 1 + m + 1 + length b.0 = length_put bs b.0 (n + 1 + m + 1) (omega arith) in
            let e : n ≡ b.1.whole = at_comma xs b.1 n (omega arith) (same n (omega arith) ∙ comma) in
            wrong_cents (omega (arith, b.1.long)) h xs same (omega arith) b.1;
      }

  good_price : digits 2 (cents bs) ≡ 2 → length (cents bs) ≡ 2 → GoodPrice bs
  good_price e l = record {
    whole = digits 6 bs;
    some = some;
    few = within_most 6 bs;
    long = omega (arith, length_cents, there);
    comma = comma;
    digits = λ i h ni. ⊎_elim (λ less. digit_at 6 bs i less)
        (λ more. cent_at i (omega arith) (omega (arith, length_cents))) (cases_lt i (digits 6 bs));
  }

price_by_format : (bs : List ℕ) → ReadByFormat GoodPrice bs (read_price bs)
price_by_format bs =
    by (is_blank bs) (ltb 0 (digits 6 bs)) (eqb (get_or bs (digits 6 bs) 0) 44)
    (eqb (digits 2 (cents bs)) 2) (eqb (length (cents bs)) 2) refl refl refl refl refl
  where
    by : (t a b c d : Bool) → is_blank bs ≡ t → ltb 0 (digits 6 bs) ≡ a → eqb (get_or bs (digits 6 bs) 0) 44 ≡ b
        → eqb (digits 2 (cents bs)) 2 ≡ c → eqb (length (cents bs)) 2 ≡ d
        → ReadByFormat {A = Price} GoodPrice bs (cond t (Ok None) (cond (a && b)
        (cond (c && d) (Ok (Some (record { hundredths = digits_number 6 bs * 100 + digits_number 2 (cents bs) })))
        (Err (digits 6 bs + 1 + digits 2 (cents bs) + 1)))
        (Err (digits 6 bs + 1))))
    by true a b c d pt pa pb pc pd = nil_from_length bs (eqb-true (length bs) 0 pt)
    by false false b c d pt pa pb pc pd = wrong_before bs (λ some k. omega (arith, ltb-false 0 (digits 6 bs) pa))
    by false true false c d pt pa pb pc pd = wrong_before bs (λ some k. eqb-false (get_or bs (digits 6 bs) 0) 44 pb k)
    by false true true false d pt pa pb pc pd =
        wrong_behind bs (ltb-true 0 (digits 6 bs) pa) (eqb-true (get_or bs (digits 6 bs) 0) 44 pb)
        (λ k l. eqb-false (digits 2 (cents bs)) 2 pc k)
    by false true true true false pt pa pb pc pd =
        wrong_behind bs (ltb-true 0 (digits 6 bs) pa) (eqb-true (get_or bs (digits 6 bs) 0) 44 pb)
        (λ k l. eqb-false (length (cents bs)) 2 pd l)
    by false true true true true pt pa pb pc pd =
        good_price bs (ltb-true 0 (digits 6 bs) pa) (eqb-true (get_or bs (digits 6 bs) 0) 44 pb)
        (eqb-true (digits 2 (cents bs)) 2 pc) (eqb-true (length (cents bs)) 2 pd)

type_by_format : (bs : List ℕ) → ReadByFormat GoodType bs (read_type bs)
type_by_format [] = refl
type_by_format (b ∷ []) = refl
type_by_format (b ∷ (c ∷ bs)) = record {
  right = 1;
  counted = refl;
  bad = λ g. omega arith;
  begins = ([], refl);
  ends = λ h g. let k = g.1 in omega arith;
}

pub cells_by_format : CellsReadByFormat
unfolding CellsReadByFormat
cells_by_format bs = (number_by_format bs, price_by_format bs, type_by_format bs)
