-- A sweep along a queue, record by record.
use Rattle.std.proofs.Common.{◌≡◌, ℕ, zero, suc, ◌+◌, ◌<◌, true, false, List, [], ◌∷◌, length, Some, None, Option, sym, refl, ◌∙◌, arith}
use Rattle.std.specs.List.{slice_get}
use Rattle.std.specs.Option.{option_map}
use Rattle.std.proofs.lemmas.List.Edits.{length-remove}
use Rattle.std.proofs.lemmas.Bool.{cond-true, cond-false}
use Rattle.orders.specs.declared.side.Side.TheVariants.{Buy, Sell}
use Rattle.books.specs.declared.queue.Queue.{Queue}
use Rattle.books.specs.declared.queue.Queue.TheVariants.{Orders, Stops}
use Rattle.books.specs.declared.queue.Record.{Record}
use Rattle.books.specs.declared.queue.Record.TheVariants.{Standing, Waiting}
use Rattle.books.specs.Model.{Queues, at, count, taken, look_at, order_of_record}
use Rattle.tapes.specs.declared.cause.Cause.{Cause}
use Rattle.matching.specs.declared.removal.Removal.{Removal}
use Rattle.matching.specs.Model.{MatchState, cancels_resting, apply}
use Rattle.matching.specs.Removing.{removes, sweep_at, sweep}

sweep_next : (k j : ℕ) (p : Removal) (c : Cause) (n : Queue) (i : ℕ) (f : MatchState) (m : Option Record) → k ≡ suc j → look_at n i f.queues ≡ m → sweep k p c n i f ≡ sweep_at m p (λ r. sweep j p c n i (apply (cancels_resting c n i r) f)) (sweep j p c n (i + 1) f) f
unfolding sweep
sweep_next k j p c n i f m e h = rw (e, h) refl

option_within : {X : Type 0} (f : X → Record) (l : List X) (i : ℕ) (r : Record) → option_map f (slice_get l i) ≡ Some r → i < length l
option_within f [] i r e = let z : ◌≡◌ {A = ℕ} 0 1 = cc in absurd (omega arith)
option_within f (x ∷ l) zero r e = omega arith
option_within f (x ∷ l) (suc i) r e = let h : i < length l = option_within f l i r e in omega arith

-- behind the last record the sweep ends; a record that the removal names is cancelled, any other passed
pub sweep_ends : (k : ℕ) (p : Removal) (c : Cause) (n : Queue) (i : ℕ) (f : MatchState) → look_at n i f.queues ≡ None → sweep k p c n i f ≡ f
unfolding sweep
sweep_ends zero p c n i f h = refl
sweep_ends (suc k) p c n i f h = rw h refl

pub sweep_cancels : (k j : ℕ) (p : Removal) (c : Cause) (n : Queue) (i : ℕ) (f : MatchState) (r : Record) → k ≡ suc j → look_at n i f.queues ≡ Some r → true ≡ removes p (order_of_record r) → sweep k p c n i f ≡ sweep j p c n i (apply (cancels_resting c n i r) f)
sweep_cancels k j p c n i f r e h b = sweep_next k j p c n i f (Some r) e h ∙ cond-true _ _ _ (sym b)

pub sweep_passes : (k j : ℕ) (p : Removal) (c : Cause) (n : Queue) (i : ℕ) (f : MatchState) (r : Record) → k ≡ suc j → look_at n i f.queues ≡ Some r → false ≡ removes p (order_of_record r) → sweep k p c n i f ≡ sweep j p c n (i + 1) f
sweep_passes k j p c n i f r e h b = sweep_next k j p c n i f (Some r) e h ∙ cond-false _ _ _ (sym b)

-- a position where a record is found is within the queue, and a take leaves one record less
pub found_within : (n : Queue) (i : ℕ) (q : Queues) (r : Record) → look_at n i q ≡ Some r → i < count n q
found_within (Orders s) i q r e = option_within Standing (at s q.stands) i r e
found_within (Stops s) i q r e = option_within Waiting (at s q.waits) i r e

pub one_taken : (n : Queue) (i : ℕ) (q : Queues) → i < count n q → count n (taken n i q) + 1 ≡ count n q
one_taken (Orders Buy) i q h = length-remove q.stands.buy i h
one_taken (Orders Sell) i q h = length-remove q.stands.sell i h
one_taken (Stops Buy) i q h = length-remove q.waits.buy i h
one_taken (Stops Sell) i q h = length-remove q.waits.sell i h
