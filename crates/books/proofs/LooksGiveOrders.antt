-- An iterator over a queue by looks: what the answer of a look says of the orders that are left.
use Rattle.std.proofs.Common.{◌≡◌, ℕ, zero, suc, ◌+◌, ◌≤◌, List, [], ◌∷◌, drop, length, Some, None, refl, ap, ◌∙◌, arith}
use Rattle.std.specs.List.{slice_get}
use Rattle.std.proofs.lemmas.List.{length-map, drop_more}
use Rattle.std.proofs.lemmas.Option.{get_or_from_slice_get, slice_get_within}
use Rattle.books.specs.declared.book.TheConstants.{MOST_RECORDS}
use Rattle.books.specs.declared.queue.Queue.{Queue}
use Rattle.books.specs.declared.queue.Queue.TheVariants.{Orders, Stops}
use Rattle.books.specs.Model.{Queues, Bounded, count, orders_in}

-- the answer is a record
pub one_more : {X : Type 0} (l : List X) (i : ℕ) (x : X) → slice_get l i ≡ Some x → drop i l ≡ x ∷ drop (i + 1) l
one_more l i x e = drop_more l i x (slice_get_within l i x e) ∙ ap (λ y. y ∷ drop (i + 1) l) (get_or_from_slice_get l i x x e)

-- the answer is none
pub no_more : {X : Type 0} (l : List X) (i : ℕ) → slice_get l i ≡ None → drop i l ≡ []
no_more [] zero e = refl
no_more [] (suc i) e = refl
no_more (x ∷ l) zero e = let z : ◌≡◌ {A = ℕ} 0 1 = cc in absurd (omega arith)
no_more (x ∷ l) (suc i) e = no_more l i e

counted : (n : Queue) (q : Queues) → length (orders_in n q) ≡ count n q
counted (Orders s) q = refl
counted (Stops s) q = rw length-map refl

pub few_orders : (n : Queue) (q : Queues) → Bounded q → length (orders_in n q) ≤ MOST_RECORDS
few_orders n q b = omega (arith, counted n q, b.count_within n, b.capacity_within n)
