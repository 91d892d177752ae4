-- What a line asks for has room in the cells of a row.
use Rattle.std.specs.Char.{is_ascii_digit}
use Rattle.std.proofs.Common.{◌≡◌, ℕ, zero, suc, ◌+◌, ◌*◌, ◌^◌, ◌<◌, ◌≤◌, Bool, true, false, ◌&&◌, cond, List, length, get_or, set, replicate, take, drop, Some, None, Ok, Err, Option, Result, ap, refl, subst, [], ◌∷◌, take-take, lt-ltb, arith}
use Rattle.std.proofs.lemmas.List.{length-take}
use Rattle.std.proofs.lemmas.List.Sums.{prefix_len-le-length}
use Rattle.std.specs.Prelude.{◌==◌, nat_lt, codes}
use Rattle.std.specs.Str.{bytes_eq}
use Rattle.std.specs.Str.Parse.{digits_value}
use Rattle.sheets.specs.Cells.{is_blank, digits, digits_number}
use Rattle.sheets.specs.FormBounds.{number_in_bounds, price_in_bounds, form_in_bounds}
use Rattle.sheets.specs.declared.letter.Letter.{Letter}
use Rattle.sheets.specs.declared.letter.Letter.TheVariants.{Entry, Change, Cancel, MassCancel, Closing, Opening}
use Rattle.sheets.proofs.DigitValues.{front_digits, short}
use Rattle.sheets.specs.Layout.{part}
use Rattle.line_format.specs.declared.columns.Column.{Column}
use Rattle.line_format.specs.declared.columns.CellKind as kind
use Rattle.line_format.specs.declared.columns.CellKind.{CellKind}
use Rattle.line_format.specs.declared.values.Value.{Value}
use Rattle.line_format.specs.declared.values.Value.TheVariants.{Number, Byte, Price}
use Rattle.line_format.specs.declared.words.Word.{Word}
use Rattle.line_format.specs.declared.words.BadWord.{BadWord}
use Rattle.line_format.specs.Words.{next_word}
use Rattle.line_format.specs.Values.{read_as, read_value, worded, number_value, price_value, type_value, side_word, validity_word}
use Rattle.line_format.specs.LineCells.{Values, blank_cells, fill_cell, fill_column, with_word}
use Rattle.line_format.specs.Lines.{cell_number, cell_price, form_of, or_refused, read_words}

-- a value that has room in its cell
abbrev value_fits : Option Value → Bool
value_fits None = true
value_fits (Some (Number n)) = number_in_bounds (Some n)
value_fits (Some (Byte b)) = true
value_fits (Some (Price p)) = price_in_bounds (Some p)

abbrev pub AllFit : Values → Type 0
AllFit cells = (k : ℕ) → value_fits (get_or cells k None) ≡ true

-- the digits that are read, at most k of them, write less than 10 ^ k
written_small : (k : ℕ) (bs : List ℕ) → digits_number k bs < 10 ^ k
written_small k bs =
    let few : digits k bs ≤ k = omega (arith, prefix_len-le-length is_ascii_digit (take k bs), length-take k bs) in
    let same : take (digits k bs) (take k bs) ≡ take (digits k bs) bs = take-take (digits k bs) k bs few in
    subst (λ (ds : List ℕ). digits_value 10 ds < 10 ^ k) same
    (short (take (digits k bs) (take k bs)) k (front_digits (take k bs)) (omega (arith, length-take (digits k bs) (take k bs))))

-- what is read as a number, or as a price, has room in its cell
number_cases : (blank good : Bool) (n index : ℕ) → n < 1000000000000
    → value_fits (read_as Number (cond blank (Ok None) (cond good (Ok (Some n)) (Err index)))) ≡ true
number_cases true good n index h = refl
number_cases false true n index h = lt-ltb n 1000000000000 h
number_cases false false n index h = refl

price_cases : (blank good cents : Bool) (h p q : ℕ) → h < 100000000
    → value_fits (read_as Price (cond blank (Ok None) (cond good (cond cents (Ok (Some (record { hundredths = h }))) (Err p)) (Err q)))) ≡ true
price_cases true good cents h p q l = refl
price_cases false true true h p q l = lt-ltb h 100000000 l
price_cases false true false h p q l = refl
price_cases false false cents h p q l = refl

number_small : (bs : List ℕ) → value_fits (number_value bs) ≡ true
number_small bs =
    let small : digits_number 12 bs < 1000000000000 = omega (arith, written_small 12 bs) in
    number_cases (is_blank bs) (digits 12 bs == length bs) (digits_number 12 bs) (digits 12 bs + 1) small

price_small : (bs : List ℕ) → value_fits (price_value bs) ≡ true
price_small bs =
    let cents : List ℕ = drop (digits 6 bs + 1) bs in
    let small : digits_number 6 bs * 100 + digits_number 2 cents < 100000000 = omega (arith, written_small 6 bs, written_small 2 cents) in
    price_cases (is_blank bs) (nat_lt 0 (digits 6 bs) && get_or bs (digits 6 bs) 0 == 44) (digits 2 cents == 2 && length cents == 2)
    (digits_number 6 bs * 100 + digits_number 2 cents) (digits 6 bs + 1 + digits 2 cents + 1) (digits 6 bs + 1) small

type_small : (bs : List ℕ) → value_fits (type_value bs) ≡ true
type_small [] = refl
type_small (b ∷ []) = refl
type_small (b ∷ (c ∷ bs)) = refl

-- a word stands for a small number
one_word_more : (t : Bool) (n : ℕ) (others : Option ℕ) (bs : List ℕ) → n < 1000000000000 → value_fits (worded others bs) ≡ true
    → value_fits (worded (cond t (Some n) others) bs) ≡ true
one_word_more true n others bs small h = lt-ltb n 1000000000000 small
one_word_more false n others bs small h = h

side_small : (bs : List ℕ) → value_fits (worded (side_word bs) bs) ≡ true
side_small bs =
    let sell = one_word_more (bytes_eq bs (codes "sell")) 2 None bs (omega arith) (number_small bs) in
    one_word_more (bytes_eq bs (codes "buy")) 1 (cond (bytes_eq bs (codes "sell")) (Some 2) None) bs (omega arith) sell

validity_small : (bs : List ℕ) → value_fits (worded (validity_word bs) bs) ≡ true
validity_small bs =
    let fok_word : Option ℕ = cond (bytes_eq bs (codes "fok")) (Some 4) None in
    let ioc_word : Option ℕ = cond (bytes_eq bs (codes "ioc")) (Some 3) fok_word in
    let gtc_word : Option ℕ = cond (bytes_eq bs (codes "gtc")) (Some 1) ioc_word in
    let fok = one_word_more (bytes_eq bs (codes "fok")) 4 None bs (omega arith) (number_small bs) in
    let ioc = one_word_more (bytes_eq bs (codes "ioc")) 3 fok_word bs (omega arith) fok in
    let gtc = one_word_more (bytes_eq bs (codes "gtc")) 1 ioc_word bs (omega arith) ioc in
    one_word_more (bytes_eq bs (codes "day")) 0 gtc_word bs (omega arith) gtc

value_small : (k : CellKind) (bs : List ℕ) → value_fits (read_value k bs) ≡ true
value_small kind.TheVariants.Number bs = number_small bs
value_small kind.TheVariants.Side bs = side_small bs
value_small kind.TheVariants.OneByte bs = type_small bs
value_small kind.TheVariants.Validity bs = validity_small bs
value_small kind.TheVariants.Price bs = price_small bs

-- all cells have room for their values: at first, and after every word
no_value : (n k : ℕ) → ◌≡◌ {A = Option Value} (get_or (replicate n None) k None) None
no_value zero k = refl
no_value (suc n) zero = refl
no_value (suc n) (suc k) = no_value n k

pub blank_fit : AllFit blank_cells
blank_fit k = ap value_fits (no_value 12 k)

set_fit : (cells : Values) (i : ℕ) (v : Option Value) → AllFit cells → value_fits v ≡ true → AllFit (set cells i v)
set_fit [] i v all h k = all k
set_fit (x ∷ cells) zero v all h zero = h
set_fit (x ∷ cells) zero v all h (suc k) = all (suc k)
set_fit (x ∷ cells) (suc i) v all h zero = all zero
set_fit (x ∷ cells) (suc i) v all h (suc k) = set_fit cells i v (λ j. all (suc j)) h k

fill_fit : (i : ℕ) (old new : Option Value) (cells filled : Values) → AllFit cells → value_fits new ≡ true → fill_cell i old new cells ≡ Some filled
    → AllFit filled
fill_fit i (Some v) new cells filled all h e = cc
fill_fit i None None cells filled all h e = cc
fill_fit i None (Some v) cells filled all h e = let same : set cells i (Some v) ≡ filled = cc in subst AllFit same (set_fit cells i (Some v) all h)

column_fit : (o : Option Column) (value : List ℕ) (cells filled : Values) → AllFit cells → fill_column o value cells ≡ Some filled → AllFit filled
column_fit None value cells filled all e = cc
column_fit (Some c) value cells filled all e =
    fill_fit c.index (get_or cells c.index None) (read_value c.kind value) cells filled all (value_small c.kind value) e

-- and so they have after the words of a line
abbrev FitsAfter : (Values → Result Values BadWord) → Values → Type 0
FitsAfter rest end = (filled : Values) → AllFit filled → rest filled ≡ Ok end → AllFit end

or_refused_fit : (o : Option Values) (w : Word) (rest : Values → Result Values BadWord) (end : Values)
    → ((filled : Values) → o ≡ Some filled → AllFit filled) → FitsAfter rest end → or_refused o w rest ≡ Ok end → AllFit end
or_refused_fit None w rest end h good e = cc
or_refused_fit (Some filled) w rest end h good e = good filled (h filled refl) e

word_fit : (t : Bool) (letter : Letter) (word : List ℕ) (w : Word) (cells end : Values) (rest : Values → Result Values BadWord)
    → AllFit cells → FitsAfter rest end → cond t (Ok cells) (or_refused (with_word letter cells word) w rest) ≡ Ok end → AllFit end
word_fit true letter word w cells end rest all good e = let same : cells ≡ end = cc in subst AllFit same all
word_fit false letter word w cells end rest all good e =
    or_refused_fit (with_word letter cells word) w rest end (λ filled f. column_fit _ _ cells filled all f) good e

pub words_fit : (n : ℕ) (letter : Letter) (line : List ℕ) (at : ℕ) (cells end : Values) → AllFit cells → read_words n letter line at cells ≡ Ok end → AllFit end
unfolding read_words
words_fit zero letter line at cells end all e = let same : cells ≡ end = cc in subst AllFit same all
words_fit (suc n) letter line at cells end all e =
    let w = next_word line at in
    word_fit (w.size == 0) letter (part line w.start w.size) w cells end (read_words n letter line (w.start + w.size)) all
    (λ filled h f. words_fit n letter line (w.start + w.size) filled end h f) e

-- a row has room for the form of such cells
number_from : (o : Option Value) → value_fits o ≡ true → number_in_bounds (cell_number o) ≡ true
number_from None h = refl
number_from (Some (Number n)) h = h
number_from (Some (Byte b)) h = refl
number_from (Some (Price p)) h = refl

price_from : (o : Option Value) → value_fits o ≡ true → price_in_bounds (cell_price o) ≡ true
price_from None h = refl
price_from (Some (Number n)) h = refl
price_from (Some (Byte b)) h = refl
price_from (Some (Price p)) h = h

pub form_fits : (letter : Letter) (cells : Values) → AllFit cells → form_in_bounds (form_of letter cells) ≡ true
form_fits Entry cells all =
    rw (
      number_from (get_or cells 0 None) (all 0),
      number_from (get_or cells 1 None) (all 1),
      number_from (get_or cells 2 None) (all 2),
      number_from (get_or cells 4 None) (all 4),
      price_from (get_or cells 5 None) (all 5),
      price_from (get_or cells 6 None) (all 6),
      number_from (get_or cells 7 None) (all 7),
      number_from (get_or cells 8 None) (all 8),
      number_from (get_or cells 9 None) (all 9),
      number_from (get_or cells 10 None) (all 10),
      number_from (get_or cells 11 None) (all 11),
    ) refl
form_fits Change cells all =
    rw (
      number_from (get_or cells 0 None) (all 0),
      number_from (get_or cells 1 None) (all 1),
      number_from (get_or cells 2 None) (all 2),
      price_from (get_or cells 3 None) (all 3),
      number_from (get_or cells 4 None) (all 4),
      number_from (get_or cells 5 None) (all 5),
      number_from (get_or cells 6 None) (all 6),
    ) refl
form_fits Cancel cells all = rw (number_from (get_or cells 0 None) (all 0), number_from (get_or cells 1 None) (all 1)) refl
form_fits MassCancel cells all =
    rw (
      number_from (get_or cells 0 None) (all 0),
      number_from (get_or cells 1 None) (all 1),
      number_from (get_or cells 2 None) (all 2),
      number_from (get_or cells 3 None) (all 3),
    ) refl
form_fits Closing cells all = refl
form_fits Opening cells all = number_from (get_or cells 0 None) (all 0)
