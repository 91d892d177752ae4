-- A front card has the counts and capacities of the book below, and so keeps its bounds (rules 5).
use Rattle.std.specs.Prelude.{◌≡◌, suc, Bool, true, false, cond, List, [], ◌∷◌, length, Some, None, Option, refl}
use Rattle.std.proofs.Common.{sym}
use Rattle.orders.specs.declared.rank.Rank.{Rank}
use Rattle.orders.specs.declared.side.Side.TheVariants.{Buy, Sell}
use Rattle.orders.specs.Ranks.{same_rank}
use Rattle.books.specs.Model.{Queues, Bounded, count, capacity, rank_of, stop_rank_of}
use Rattle.books.specs.declared.queue.Queue.{Queue}
use Rattle.books.specs.declared.queue.Queue.TheVariants.{Orders, Stops}
use Rattle.cards.specs.Held.{Held, over, covered}

over_length : {X : Type 0} (f : X → Rank) (held : Option X) (xs : List X) →
    length (over f held xs) ≡ length xs
over_length f None xs = refl
over_length f (Some h) [] = refl
over_length f (Some h) (x ∷ xs) = one (same_rank (f x) (f h))
  where
    one : (b : Bool) → length (cond b (h ∷ xs) (x ∷ xs)) ≡ suc (length xs)
    one true = refl
    one false = refl

module _ (held : Held) (queues : Queues) where
  pub count_same : (queue : Queue) → count queue queues ≡ count queue (covered held queues)
  count_same (Orders Buy) = sym (over_length rank_of held.orders.buy queues.stands.buy)
  count_same (Orders Sell) = sym (over_length rank_of held.orders.sell queues.stands.sell)
  count_same (Stops Buy) = sym (over_length stop_rank_of held.stops.buy queues.waits.buy)
  count_same (Stops Sell) = sym (over_length stop_rank_of held.stops.sell queues.waits.sell)

  pub capacity_same : (queue : Queue) → capacity queue queues ≡ capacity queue (covered held queues)
  capacity_same (Orders side) = refl
  capacity_same (Stops side) = refl

  pub covered_bounded : Bounded queues → Bounded (covered held queues)
  covered_bounded b = record {
    count_within = λ n. rw (← count_same n, ← capacity_same n) (b.count_within n);
    capacity_within = λ n. rw (← capacity_same n) (b.capacity_within n);
  }
