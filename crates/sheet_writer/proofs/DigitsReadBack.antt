-- A number or a price that is written reads as it was.
use Rattle.std.specs.Char.{is_ascii_digit}
use Rattle.std.proofs.Common.{◌≡◌, ℕ, zero, suc, ◌+◌, ◌*◌, ◌/◌, ◌%◌, ◌<◌, ◌≤◌, Bool, true, false, List, [], ◌∷◌, ◌++◌, length, get_or, take, drop, Some, None, Ok, sym, ap, ◌∙◌, refl, ltb-true, append-nil, take_all, take_at, drop_at, drop-drop, length-append, arith}
use Rattle.std.proofs.lemmas.Bool.Decides.{nat_tests}
use Rattle.std.proofs.lemmas.Fmt.{decimal_is_IsNumeral, length-decimal-le, decimal_digit}
use Rattle.std.proofs.lemmas.Str.Parse.{digit_from_value}
use Rattle.std.proofs.lemmas.Str.{digit_value_digit}
use Rattle.std.proofs.lemmas.List.{get_or_at}
use Rattle.std.specs.Prelude.{◌==◌, nat_lt}
use Rattle.std.specs.Char.{digit_value}
use Rattle.std.specs.Fmt.{decimal}
use Rattle.std.specs.Str.Parse.{AllDigits, digits_value}
use Rattle.display.specs.PrintedTexts.{price_text}
use Rattle.sheet_writer.specs.declared.cell.Cell.{Cell}
use Rattle.sheet_writer.specs.declared.cell.Cell.TheVariants.{Number, OneByte, Price}
use Rattle.sheet_writer.specs.CellTexts.{text, has_room}
use Rattle.sheets.specs.Cells.{digits, read_number, read_price, read_cents}

-- a digit by its value is a digit by its byte
digit_byte : (c : ℕ) (cs : List ℕ) → AllDigits 10 (c ∷ cs) → is_ascii_digit c ≡ true
digit_byte c cs all = let r = digit_from_value c all.0 in grind (arith, nat_tests)

-- digits count up to the first byte that is none
pub digits_before : (most : ℕ) (ds rest : List ℕ) → AllDigits 10 ds → length ds ≤ most → is_ascii_digit (get_or rest 0 0) ≡ false
    → digits most (ds ++ rest) ≡ length ds
digits_before zero [] rest all few stop = refl
digits_before (suc m) [] [] all few stop = refl
digits_before (suc m) [] (r ∷ rest) all few stop = rw stop refl
digits_before zero (c ∷ ds) rest all few stop = absurd (omega arith)
digits_before (suc m) (c ∷ ds) rest all few stop =
    rw (digit_byte c ds all) (omega (arith, digits_before m ds rest all.1 (omega arith) stop))

digits_whole : (most : ℕ) (ds : List ℕ) → AllDigits 10 ds → length ds ≤ most → digits most ds ≡ length ds
digits_whole most ds all few =
    ap (digits most) (sym (append-nil ds)) ∙ digits_before most ds [] all few refl

-- a number that is written reads as it was
pub number_back : (n : ℕ) → n < 1000000000000 → read_number (decimal n) ≡ Ok (Some n)
number_back n small =
    let d = decimal_is_IsNumeral n (omega arith) in
    let few : length (decimal n) ≤ 12 = length-decimal-le 12 n (omega arith) (omega arith) (omega arith) in
    let whole : digits 12 (decimal n) ≡ length (decimal n) = digits_whole 12 (decimal n) d.0.1 few in
    let some : ◌≡◌ {A = Bool} (length (decimal n) == 0) false = grind (arith, nat_tests) in
    let same : ◌≡◌ {A = Bool} (digits 12 (decimal n) == length (decimal n)) true = grind (arith, nat_tests) in
    let all : take (length (decimal n)) (decimal n) ≡ decimal n = take_all (length (decimal n)) (decimal n) (omega arith) in
    rw (some, same, whole, all) (ap (λ (v : ℕ). Ok (Some v)) d.1)

-- a digit and its value
digit_is : (t : ℕ) → t < 10 → is_ascii_digit (48 + t) ≡ true
digit_is t small = grind (arith, nat_tests)

value_is : (t : ℕ) → t < 10 → digit_value (48 + t) ≡ t
value_is t small = omega (arith, digit_value_digit (48 + t) (omega arith, omega arith))

-- two digits after the comma
cents_back : (before units t u : ℕ) → t < 10 → u < 10
    → read_cents before units ((48 + t) ∷ (48 + u) ∷ []) ≡ Ok (Some (record { hundredths = units * 100 + (t * 10 + u) }))
cents_back before units t u ht hu =
    let dt = digit_is t ht in
    let du = digit_is u hu in
    let vt = value_is t ht in
    let vu = value_is u hu in
    rw (dt, du) (rw (vt, vu) (ap (λ (n : ℕ). Ok (Some (record { hundredths = n }))) (omega arith)))

-- digits before the comma
whole_back : (ds : List ℕ) (t u : ℕ) → AllDigits 10 ds → 0 < length ds → length ds ≤ 6 → t < 10 → u < 10
    → read_price (ds ++ (44 ∷ ((48 + t) ∷ (48 + u) ∷ []))) ≡ Ok (Some (record { hundredths = digits_value 10 ds * 100 + (t * 10 + u) }))
whole_back ds t u all some few ht hu =
    let rest : List ℕ = (48 + t) ∷ (48 + u) ∷ [] in
    let bs : List ℕ = ds ++ (44 ∷ rest) in
    let long : ◌≡◌ {A = Bool} (length bs == 0) false = grind (arith, nat_tests, length-append ds (44 ∷ rest)) in
    let front : digits 6 bs ≡ length ds = digits_before 6 ds (44 ∷ rest) all few refl in
    let there : ◌≡◌ {A = Bool} (nat_lt 0 (length ds)) true = grind (arith, nat_tests) in
    let comma : get_or bs (length ds) 0 ≡ 44 = get_or_at ds 44 rest 0 (length ds) refl in
    let behind : drop (length ds + 1) bs ≡ rest = sym (drop-drop 1 (length ds) bs) ∙ ap (drop 1) (drop_at ds (44 ∷ rest) (length ds) refl) in
    let whole : take (length ds) bs ≡ ds = take_at ds (44 ∷ rest) (length ds) refl in
    rw (long, front, there, comma, behind, whole) (cents_back (length ds) (digits_value 10 ds) t u ht hu)

-- a price that is written reads as it was
pub price_back : (h : ℕ) → h < 100000000 → read_price (price_text h) ≡ Ok (Some (record { hundredths = h }))
price_back h small =
    let d = decimal_is_IsNumeral (h / 100) (omega arith) in
    let few : length (decimal (h / 100)) ≤ 6 = length-decimal-le 6 (h / 100) (omega arith) (omega arith) (omega arith) in
    let t = decimal_digit (h % 100 / 10) (omega arith) in
    let u = decimal_digit (h % 10) (omega arith) in
    rw (t, u) (whole_back (decimal (h / 100)) (h % 100 / 10) (h % 10) d.0.1 d.0.0 few (omega arith) (omega arith)
    ∙ ap (λ (n : ℕ). Ok (Some (record { hundredths = n }))) (omega (arith, d.1)))

-- a cell has at most twelve bytes
pub text_short : (c : Cell) → has_room c ≡ true → length (text c) ≤ 12
text_short (Number None) h = omega arith
text_short (Number (Some n)) h =
    let small : n < 1000000000000 = ltb-true n 1000000000000 h in
    length-decimal-le 12 n (omega arith) (omega arith) (omega arith)
text_short (OneByte None) h = omega arith
text_short (OneByte (Some b)) h = omega arith
text_short (Price None) h = omega arith
text_short (Price (Some p)) h =
    let small : p.hundredths < 100000000 = ltb-true p.hundredths 100000000 h in
    let few : length (decimal (p.hundredths / 100)) ≤ 6 = length-decimal-le 6 (p.hundredths / 100) (omega arith) (omega arith) (omega arith) in
    let t = decimal_digit (p.hundredths % 100 / 10) (omega arith) in
    let u = decimal_digit (p.hundredths % 10) (omega arith) in
    rw (t, u) (omega (arith, length-append (decimal (p.hundredths / 100)) (44 ∷ ((48 + p.hundredths % 100 / 10) ∷ (48 + p.hundredths % 10) ∷ []))))
