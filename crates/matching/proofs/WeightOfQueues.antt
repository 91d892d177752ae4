-- What each call of a book does to the weight of the queues.
use Rattle.std.proofs.Common.{Ok, Err, ◌≡◌, ℕ, zero, suc, ◌+◌, ◌*◌, ◌≤◌, Bool, true, false, cond, List, [], ◌∷◌, length, set, Some, refl, ap, arith}
use Rattle.std.specs.List.{insert, remove, slice_get}
use Rattle.std.specs.Option.{option_map}
use Rattle.orders.specs.declared.side.Side.{Side}
use Rattle.orders.specs.declared.side.Side.TheVariants.{Buy, Sell}
use Rattle.orders.specs.declared.order.Order.{Order}
use Rattle.orders.specs.declared.order.Stop.{Stop}
use Rattle.books.specs.RankedLists.{put_by_rank, rank_index}
use Rattle.books.specs.Model.{Queues, at, with_stands, with_waits, rank_of, standing_order, waiting_stop, put_answer, after_put, inserted, taken, rewritten, rewrite_allowed, record_set, PutAnswer}
use Rattle.books.specs.declared.queue.Queue.TheVariants.{Orders, Stops}
use Rattle.books.specs.declared.queue.Record.TheVariants.{Standing, Waiting}
use Rattle.books.specs.declared.queue.PutError.TheVariants.{Full, Twice}
use Rattle.matching.specs.Model.{put_back}
use Rattle.matching.proofs.PartsFall.{parts_most, parts_least}
use Rattle.matching.specs.Running.{total, parts, queues_weight, first_order, first_stop}

load_stands : (s : Side) (l : List Order) (q : Queues) → queues_weight (with_stands s l q) + total parts (at s q.stands) ≡ queues_weight q + total parts l
unfolding queues_weight
load_stands Buy l q = omega arith
load_stands Sell l q = omega arith

load_waits : (s : Side) (l : List Stop) (q : Queues) → queues_weight (with_waits s l q) + 18 * length (at s q.waits) ≡ queues_weight q + 18 * length l
unfolding queues_weight
load_waits Buy l q = omega arith
load_waits Sell l q = omega arith

total_inserted : {X : Type 0} (f : X → ℕ) (xs : List X) (i : ℕ) (x : X) → total f (insert xs i x) ≡ f x + total f xs
total_inserted f [] zero x = refl
total_inserted f [] (suc i) x = refl
total_inserted f (y ∷ xs) zero x = refl
total_inserted f (y ∷ xs) (suc i) x = let e = total_inserted f xs i x in omega arith

first_removed : (l : List Order) (r : Order) → standing_order (option_map Standing (slice_get l 0)) ≡ Some r → total parts (remove l 0) + parts r ≡ total parts l
first_removed [] r e = let z : ◌≡◌ {A = ℕ} 0 1 = cc in absurd (omega arith)
first_removed (x ∷ l) r e = let z : x ≡ r = cc in let p : parts x ≡ parts r = ap parts z in omega arith

first_waits : (l : List Stop) (x : Stop) → waiting_stop (option_map Waiting (slice_get l 0)) ≡ Some x → suc (length (remove l 0)) ≡ length l
first_waits [] x e = let z : ◌≡◌ {A = ℕ} 0 1 = cc in absurd (omega arith)
first_waits (y ∷ l) x e = refl

pub load_taken : (s : Side) (r : Order) (q : Queues) → first_order s q ≡ Some r → queues_weight (taken (Orders s) 0 q) + parts r ≡ queues_weight q
load_taken s r q e =
    let a = load_stands s (remove (at s q.stands) 0) q in
    let b = first_removed (at s q.stands) r e in
    omega arith

pub load_triggered : (s : Side) (x : Stop) (q : Queues) → first_stop s q ≡ Some x → queues_weight (taken (Stops s) 0 q) + 18 ≡ queues_weight q
load_triggered s x q e =
    let a = load_waits s (remove (at s q.waits) 0) q in
    let b = first_waits (at s q.waits) x e in
    omega arith

pub load_placed : (o : Order) (q : Queues) → queues_weight (inserted (Standing o) q) ≡ queues_weight q + parts o
load_placed o q =
    let l : List Order = at o.side q.stands in
    let a = load_stands o.side (put_by_rank rank_of o l) q in
    let b = total_inserted parts l (rank_index rank_of (rank_of o) l) o in
    omega arith

pub load_put : (p : PutAnswer) (o : Order) (q : Queues) → queues_weight (after_put p (Standing o) q) ≤ queues_weight q + parts o
load_put (Ok _) o q = omega (arith, load_placed o q)
load_put (Err Full) o q = omega arith
load_put (Err Twice) o q = omega arith

pub load_put_back : (o : Order) (q : Queues) → queues_weight (put_back o q) ≤ queues_weight q + parts o
unfolding put_back
load_put_back o q = load_put (put_answer (Standing o) q) o q

set_least : (l : List Order) (i : ℕ) (o : Order) → total parts (set l i o) ≤ total parts l + 15
set_least [] i o = omega arith
set_least (x ∷ l) zero o = omega (arith, parts_most o, parts_least x)
set_least (x ∷ l) (suc i) o = omega (arith, set_least l i o)

-- a rewrite swaps one part at least for 16 at most
pub load_rewritten : (i : ℕ) (o : Order) (q : Queues) → queues_weight (rewritten i (Standing o) q) ≤ queues_weight q + 15
load_rewritten i o q = go (rewrite_allowed i (Standing o) q)
  where
    go : (b : Bool) → queues_weight (cond b (record_set i (Standing o) q) q) ≤ queues_weight q + 15
    go true = omega (arith, load_stands o.side (set (at o.side q.stands) i o) q, set_least (at o.side q.stands) i o)
    go false = omega arith
