-- The reach of the definitions is that of chains along the opposite orders, and no sum is too large.
use Rattle.std.proofs.Common.{◌≡◌, ℕ, ◌+◌, ◌*◌, ◌≤◌, Bool, true, false, cond, not, List, [], ◌∷◌, length, Option, Some, refl, ap, ◌∙◌, arith}
use Rattle.std.specs.List.{find, take_while, sum_by}
use Rattle.std.specs.Option.{option_map}
use Rattle.std.proofs.lemmas.List.Sums.{sum_by-cons, take_while-cons, prefix_len-le-length}
use Rattle.std.proofs.lemmas.List.Folds.{length-prefix_len}
use Rattle.orders.specs.declared.price.Price.{Price}
use Rattle.orders.specs.declared.order.Order.{Order}
use Rattle.orders.specs.Prices.{same_price}
use Rattle.matching.specs.Reach.{own, own_price, counts, counted_open_lots, shown_ahead}

abbrev pub price_of : Order → Price
price_of r = r.price

abbrev pub not_own : Order → Order → Bool
not_own o r = not (own o r)

abbrev pub open_of : Order → Option Price → Order → ℕ
open_of o p r = cond (counts o p r) r.open_lots 0

abbrev pub shown_of : Price → Order → ℕ
shown_of p r = cond (same_price r.price p) r.shown 0

pub own_found : (o : Order) (l : List Order) → option_map price_of (find (own o) l) ≡ own_price o l
own_found o [] = refl
own_found o (r ∷ l) = step (own o r) (own_found o l)
  where
    step : (b : Bool) → option_map price_of (find (own o) l) ≡ own_price o l → option_map price_of (cond b (Some r) (find (own o) l)) ≡ cond b (Some r.price) (own_price o l)
    step true e = refl
    step false e = e

pub open_summed : (o : Order) (p : Option Price) (l : List Order) → sum_by (open_of o p) l ≡ counted_open_lots o p l
open_summed o p [] = refl
open_summed o p (r ∷ l) = sum_by-cons (open_of o p) r l ∙ ap (λ n. open_of o p r + n) (open_summed o p l)

pub shown_summed : (o : Order) (p : Price) (l : List Order) → sum_by (shown_of p) (take_while (not_own o) l) ≡ shown_ahead o p l
shown_summed o p [] = refl
shown_summed o p (r ∷ l) = ap (sum_by (shown_of p)) (take_while-cons (not_own o) r l) ∙ step (own o r) (shown_summed o p l)
  where
    step : (b : Bool) → sum_by (shown_of p) (take_while (not_own o) l) ≡ shown_ahead o p l → sum_by (shown_of p) (cond (not b) (r ∷ take_while (not_own o) l) []) ≡ cond b 0 (shown_of p r + shown_ahead o p l)
    step true e = refl
    step false e = sum_by-cons (shown_of p) r (take_while (not_own o) l) ∙ ap (λ n. shown_of p r + n) e

cond_most : (b : Bool) (x n : ℕ) → x ≤ n → cond b x 0 ≤ n
cond_most true x n h = h
cond_most false x n h = omega arith

pub open_few : (o : Order) (p : Option Price) (r : Order) → open_of o p r ≤ 1000000
open_few o p r = cond_most (counts o p r) r.open_lots 1000000 (omega (arith, r.shown_within_open, r.open_within_quantity, r.quantity_within_most))

pub shown_few : (p : Price) (r : Order) → shown_of p r ≤ 1000000
shown_few p r = cond_most (same_price r.price p) r.shown 1000000 (omega (arith, r.shown_within_open, r.open_within_quantity, r.quantity_within_most))

total_few : (f : Order → ℕ) → ((r : Order) → f r ≤ 1000000) → (l : List Order) → sum_by f l ≤ 1000000 * length l
total_few f h [] = omega arith
total_few f h (r ∷ l) = omega (arith, sum_by-cons f r l, h r, total_few f h l)

-- a million orders at most of a million lots at most
pub sum_few : (f : Order → ℕ) → ((r : Order) → f r ≤ 1000000) → (l : List Order) → length l ≤ 1000000 → sum_by f l ≤ 1000000 * 1000000
sum_few f h l n = omega (arith, total_few f h l, n)

pub ahead_few : (o : Order) (l : List Order) → length l ≤ 1000000 → length (take_while (not_own o) l) ≤ 1000000
ahead_few o l n = omega (arith, length-prefix_len (not_own o) l, prefix_len-le-length (not_own o) l, n)
