-- When an event may apply, which orders it takes out and puts in, and that it leaves consistent queues.
use Rattle.std.proofs.Common.{◌≡◌, ℕ, suc, ◌+◌, ◌<◌, ◌≤◌, true, List, length, Some, None, Option, sym, refl, ap, ◌∙◌, subst, arith, Ok}
use Rattle.std.specs.List.{remove, slice_get}
use Rattle.std.proofs.lemmas.Bool.{cond-true, eq-eqb}
use Rattle.std.proofs.lemmas.Bool.Decides.{nat_tests}
use Rattle.orders.specs.declared.side.Side.{Side}
use Rattle.orders.specs.declared.order.Order.{Order}
use Rattle.orders.specs.declared.order.Stop.{Stop}
use Rattle.orders.specs.declared.rank.Rank.{Rank}
use Rattle.orders.specs.Ranks.{same_rank}
use Rattle.orders.specs.Sides.{opposite}
use Rattle.orders.specs.Lots.{order_reduced, order_refilled, within_limit}
use Rattle.books.specs.RankedLists.{ranks_as}
use Rattle.books.specs.declared.queue.Queue.{Queue}
use Rattle.books.specs.declared.queue.Queue.TheVariants.{Orders, Stops}
use Rattle.books.specs.declared.queue.Record.{Record}
use Rattle.books.specs.declared.queue.Record.TheVariants.{Standing, Waiting}
use Rattle.books.specs.Model.{Queues, at, rank_of, count, capacity, order_of_record, put_answer, after_put, inserted, taken, rewritten, rewrite_allowed, record_set, PutAnswer}
use Rattle.matching.specs.Model.{MatchState, Event, accepts, accepts_stop, accepts_and_cancels, accepts_unmatched, cancels_incoming, trades, rests, triggers, cancels_resting, amends, requeues, RestingOutcome, filled, refilled, reduced, outcome, put_back, after_trade, incoming_left, trade_lots, apply}
use Rattle.matching.proofs.OutcomeCases.{incoming_left_cases}
use Rattle.laws.specs.Tally.{Status, stands, waits, incoming}
use Rattle.laws.proofs.SortedLists.{length_removed, all_nth}
use Rattle.laws.proofs.RowsInBounds.{ShowsInFull, refilled_shows}
use Rattle.laws.proofs.ConsistentQueues.{InPriceRange, OnSide, StopOnSide, ConsistentQueues, NoneWithinLimit, SameRank, at_same_side, queues_removed, queues_stop_removed, queues_put, queues_stop_put, queues_set, nth_crosses_none, none_within_crosses_none, same_crosses_none, same_order_rank, crosses_none_own}
use Rattle.laws.proofs.SumsOverOrders.{Measure, queued, of_incoming, over, everywhere, with_number, queued_removed, queued_stop_removed, queued_put, queued_stop_put, queued_set, put_done}

-- an order may be entered: it is wholly open, with the next stamp as number and turn
pub record MayEnter (o : Order) (f : MatchState) : Type 0 where
  pub idle : f.incoming ≡ None
  pub new : o.number ≡ f.session.next_stamp
  pub turn : o.turn ≡ f.session.next_stamp
  pub whole : o.open_lots ≡ o.quantity
  pub price_in_range : InPriceRange o.price
  pub shows_in_full : ShowsInFull o

-- an order before and after a change: the lots already traded are the same
pub record ChangesInto (o o' : Order) : Type 0 where
  pub number : o'.number ≡ o.number
  pub side : o'.side ≡ o.side
  pub account : o'.quantity + o.open_lots ≡ o'.open_lots + o.quantity
  pub price_in_range : InPriceRange o'.price

-- an order stands here that may be changed into this one
pub record MayChange (s : Side) (i : ℕ) (o' : Order) (f : MatchState) : Type 0 where
  pub idle : f.incoming ≡ None
  pub was : Order
  pub there : slice_get (at s f.queues.stands) i ≡ Some was
  pub changes : ChangesInto was o'

-- a stop may be entered, and finds a free place
pub record MayAcceptStop (x : Stop) (f : MatchState) : Type 0 where
  pub enters : MayEnter x.order f
  pub has_place : count (Stops x.order.side) f.queues < capacity (Stops x.order.side) f.queues
  pub price_in_range : InPriceRange x.trigger

-- the incoming order may trade with the first opposite one
pub record MayTrade (o r : Order) (f : MatchState) : Type 0 where
  pub is_incoming : f.incoming ≡ Some o
  pub first : slice_get (at (opposite o.side) f.queues.stands) 0 ≡ Some r
  pub within_its_limit : within_limit o.side o.price r.price ≡ true

-- the incoming order may come to stand: no opposite order is within its limit, and there is a free place
pub record MayRest (o : Order) (f : MatchState) : Type 0 where
  pub is_incoming : f.incoming ≡ Some o
  pub none_match : NoneWithinLimit o.side o.price (at (opposite o.side) f.queues.stands)
  pub has_place : count (Orders o.side) f.queues < capacity (Orders o.side) f.queues

-- a record has this position in its queue
abbrev pub RecordAt : Queue → ℕ → Record → Queues → Type 0
RecordAt (Orders s) i r q = (o : Order) × (r ≡ Standing o) × (slice_get (at s q.stands) i ≡ Some o)
RecordAt (Stops s) i r q = (x : Stop) × (r ≡ Waiting x) × (slice_get (at s q.waits) i ≡ Some x)

-- the status of the records of a queue
abbrev pub status : Queue → Status
status (Orders s) = stands
status (Stops s) = waits

-- when an event may apply
abbrev pub MayApply : Event → MatchState → Type 0
MayApply (accepts o) f = MayEnter o f
MayApply (accepts_stop x) f = MayAcceptStop x f
MayApply (accepts_and_cancels c o) f = MayEnter o f
MayApply (accepts_unmatched n k) f = (f.incoming ≡ None) × (n ≡ f.session.next_stamp)
MayApply (cancels_incoming c o) f = f.incoming ≡ Some o
MayApply (trades o r) f = MayTrade o r f
MayApply (rests o) f = MayRest o f
MayApply (triggers s x) f = (f.incoming ≡ None) × (slice_get (at s f.queues.waits) 0 ≡ Some x)
MayApply (cancels_resting c n i r) f = (f.incoming ≡ None) × RecordAt n i r f.queues
MayApply (amends i o) f = (h : MayChange o.side i o f) × SameRank h.was o
MayApply (requeues s i o) f = MayChange s i o f × ShowsInFull o × (o.turn ≡ f.session.next_stamp)

-- a measure of the orders that an event takes out, and of those that it puts in

abbrev pub of_outcome : (Order → ℕ) → RestingOutcome → (lots stamp : ℕ) → Order → ℕ
of_outcome w filled lots stamp r = 0
of_outcome w refilled lots stamp r = w (order_refilled stamp lots r)
of_outcome w reduced lots stamp r = w (order_reduced lots r)

abbrev pub measure_out : Event → MatchState → Measure → ℕ
measure_out (cancels_incoming c o) f g = g incoming o
measure_out (trades o r) f g = g incoming o + g stands r
measure_out (rests o) f g = g incoming o
measure_out (triggers s x) f g = g waits x.order
measure_out (cancels_resting c n i r) f g = g (status n) (order_of_record r)
measure_out (amends i o) f g = of_incoming (g stands) (slice_get (at o.side f.queues.stands) i)
measure_out (requeues s i o) f g = of_incoming (g stands) (slice_get (at s f.queues.stands) i)
measure_out _ f g = 0

abbrev pub measure_in : Event → MatchState → Measure → ℕ
measure_in (accepts o) f g = g incoming o
measure_in (accepts_stop x) f g = g waits x.order
measure_in (trades o r) f g = of_incoming (g incoming) (incoming_left (trade_lots o r) o) + of_outcome (g stands) (outcome (trade_lots o r) r) (trade_lots o r) f.session.next_stamp r
measure_in (rests o) f g = g stands o
measure_in (triggers s x) f g = g incoming (order_refilled f.session.next_stamp 0 x.order)
measure_in (amends i o) f g = g stands o
measure_in (requeues s i o) f g = g incoming o
measure_in _ f g = 0

-- the queues without the orders that an event takes out
abbrev pub untouched_queues : Event → MatchState → Queues
untouched_queues (trades o r) f = taken (Orders (opposite o.side)) 0 f.queues
untouched_queues (triggers s x) f = taken (Stops s) 0 f.queues
untouched_queues (cancels_resting c n i r) f = taken n i f.queues
untouched_queues (amends i o) f = taken (Orders o.side) i f.queues
untouched_queues (requeues s i o) f = taken (Orders s) i f.queues
untouched_queues _ f = f.queues

-- a measure of the orders that an event leaves untouched; none of them is incoming
abbrev pub measure_untouched : Measure → Event → MatchState → ℕ
measure_untouched g e f = over g (untouched_queues e f) None

module _ (g : Measure) where
  none_incoming : (f : MatchState) → f.incoming ≡ None → of_incoming (g incoming) f.incoming ≡ 0
  none_incoming f e = ap (of_incoming (g incoming)) e

  incoming_measure : (f : MatchState) (o : Order) → f.incoming ≡ Some o → of_incoming (g incoming) f.incoming ≡ g incoming o
  incoming_measure f o e = ap (of_incoming (g incoming)) e

  record_removed : (n : Queue) (i : ℕ) (r : Record) (q : Queues) → RecordAt n i r q → queued g (taken n i q) + g (status n) (order_of_record r) ≡ queued g q
  record_removed (Orders s) i r q h = let z : g stands (order_of_record r) ≡ g stands h.0 = ap (λ r. g stands (order_of_record r)) h.1 in omega (arith, queued_removed g s i h.0 q h.2)
  record_removed (Stops s) i r q h = let z : g waits (order_of_record r) ≡ g waits h.0.order = ap (λ r. g waits (order_of_record r)) h.1 in omega (arith, queued_stop_removed g s i h.0 q h.2)

  -- before an event: what it leaves untouched, and what it takes out
  pub before_event : (e : Event) (f : MatchState) → MayApply e f → measure_untouched g e f + measure_out e f g ≡ everywhere g f
  before_event (accepts o) f h = omega (arith, none_incoming f h.idle)
  before_event (accepts_and_cancels c o) f h = omega (arith, none_incoming f h.idle)
  before_event (accepts_stop x) f h = omega (arith, none_incoming f h.enters.idle)
  before_event (accepts_unmatched n k) f h = omega (arith, none_incoming f h.0)
  before_event (cancels_incoming c o) f h = omega (arith, incoming_measure f o h)
  before_event (trades o r) f h = omega (arith, incoming_measure f o h.is_incoming, queued_removed g (opposite o.side) 0 r f.queues h.first)
  before_event (rests o) f h = omega (arith, incoming_measure f o h.is_incoming)
  before_event (triggers s x) f h = omega (arith, none_incoming f h.0, queued_stop_removed g s 0 x f.queues h.1)
  before_event (cancels_resting c n i r) f h = omega (arith, none_incoming f h.0, record_removed n i r f.queues h.1)
  before_event (amends i o) f h =
      let z : of_incoming (g stands) (slice_get (at o.side f.queues.stands) i) ≡ g stands h.0.was = ap (of_incoming (g stands)) h.0.there in
      omega (arith, none_incoming f h.0.idle, queued_removed g o.side i h.0.was f.queues h.0.there)
  before_event (requeues s i o) f h =
      let z : of_incoming (g stands) (slice_get (at s f.queues.stands) i) ≡ g stands h.0.was = ap (of_incoming (g stands)) h.0.there in
      omega (arith, none_incoming f h.0.idle, queued_removed g s i h.0.was f.queues h.0.there)

-- no two orders have one number
abbrev pub NumbersUnique : MatchState → Type 0
NumbersUnique f = (n : ℕ) → everywhere (with_number n) f ≤ 1

pub counts_itself : (p : Status) (o : Order) → with_number o.number p o ≡ 1
counts_itself p o = rw (eq-eqb o.number o.number refl) refl

-- the queue of the resting order after a trade

rank_itself : (k : Rank) → same_rank k k ≡ true
rank_itself k = grind (arith, nat_tests)

rewrites : (i : ℕ) (x o : Order) (q : Queues) → slice_get (at o.side q.stands) i ≡ Some x → rank_of x ≡ rank_of o →
    rewritten i (Standing o) q ≡ record_set i (Standing o) q
rewrites i x o q e k =
    cond-true (rewrite_allowed i (Standing o) q) (record_set i (Standing o) q) q (ap (ranks_as rank_of o) e ∙ (ap (λ z. same_rank z (rank_of o)) k ∙ rank_itself (rank_of o)))

-- the book takes an order that is refilled
pub put_back_done : (r x : Order) (f : MatchState) → x.side ≡ r.side → x.number ≡ r.number → slice_get (at r.side f.queues.stands) 0 ≡ Some r →
    ConsistentQueues f.queues → NumbersUnique f →
    put_answer (Standing x) (taken (Orders r.side) 0 f.queues) ≡ Ok tt
put_back_done r x f d n e g k =
    let q : Queues = f.queues in
    let s : Side = r.side in
    let t : Queues = taken (Orders s) 0 q in
    let c = queued_removed (with_number x.number) s 0 r q e in
    let one : with_number x.number stands r ≡ 1 = rw n (counts_itself stands r) in
    put_done (Standing x) t (omega (arith, k x.number))
    (subst (λ (z : Side). count (Orders z) t < capacity (Orders z) t) (sym d) (omega (arith, fewer s q (length_removed (at s q.stands) 0 r e), g.bounded (Orders s), same_room s q)))
  where
    fewer : (s : Side) (q : Queues) → suc (length (remove (at s q.stands) 0)) ≡ length (at s q.stands) →
        suc (count (Orders s) (taken (Orders s) 0 q)) ≡ count (Orders s) q
    fewer s q w = ap (λ l. suc (length l)) (at_same_side s (remove (at s q.stands) 0) q.stands) ∙ w

    same_room : (s : Side) (q : Queues) → capacity (Orders s) (taken (Orders s) 0 q) ≡ capacity (Orders s) q
    same_room s q = refl

pub rest_side : (o r : Order) (f : MatchState) → MayTrade o r f → ConsistentQueues f.queues → OnSide (opposite o.side) r
rest_side o r f h g = all_nth (OnSide (opposite o.side)) (at (opposite o.side) f.queues.stands) 0 r h.first (g.on_side (opposite o.side))

-- the queues after each outcome
abbrev pub after_outcome : RestingOutcome → (lots stamp : ℕ) → Order → Queues → Queues
after_outcome filled lots stamp r q = taken (Orders r.side) 0 q
after_outcome refilled lots stamp r q = inserted (Standing (order_refilled stamp lots r)) (taken (Orders r.side) 0 q)
after_outcome reduced lots stamp r q = record_set 0 (Standing (order_reduced lots r)) q

after_trade_is : (k : RestingOutcome) (lots stamp : ℕ) (r : Order) (f : MatchState) → slice_get (at r.side f.queues.stands) 0 ≡ Some r → ConsistentQueues f.queues → NumbersUnique f →
    after_trade k r.side lots stamp r f.queues ≡ after_outcome k lots stamp r f.queues
unfolding put_back
after_trade_is filled lots stamp r f e g s = refl
after_trade_is refilled lots stamp r f e g s =
    let x : Order = order_refilled stamp lots r in
    let t : Queues = taken (Orders r.side) 0 f.queues in
    ap (λ (p : PutAnswer). after_put p (Standing x) t) (put_back_done r x f refl refl e g s)
after_trade_is reduced lots stamp r f e g s = rewrites 0 r (order_reduced lots r) f.queues e refl

pub after_trade_trade : (o r : Order) (f : MatchState) → MayTrade o r f → ConsistentQueues f.queues → NumbersUnique f →
    after_trade (outcome (trade_lots o r) r) (opposite o.side) (trade_lots o r) f.session.next_stamp r f.queues ≡ after_outcome (outcome (trade_lots o r) r) (trade_lots o r) f.session.next_stamp r f.queues
after_trade_trade o r f h g s =
    let d = (rest_side o r f h g).0 in
    subst (λ (z : Side). after_trade (outcome (trade_lots o r) r) z (trade_lots o r) f.session.next_stamp r f.queues ≡ after_outcome (outcome (trade_lots o r) r) (trade_lots o r) f.session.next_stamp r f.queues) d
    (after_trade_is (outcome (trade_lots o r) r) (trade_lots o r) f.session.next_stamp r f (subst (λ (z : Side). slice_get (at z f.queues.stands) 0 ≡ Some r) (sym d) h.first) g s)

first_of_own_side : (o r : Order) (f : MatchState) → MayTrade o r f → ConsistentQueues f.queues → slice_get (at r.side f.queues.stands) 0 ≡ Some r
first_of_own_side o r f h g = subst (λ (z : Side). slice_get (at z f.queues.stands) 0 ≡ Some r) (sym (rest_side o r f h g).0) h.first

queued_outcome : (g : Measure) (k : RestingOutcome) (lots stamp : ℕ) (r : Order) (q : Queues) → slice_get (at r.side q.stands) 0 ≡ Some r →
    queued g (after_outcome k lots stamp r q) ≡ queued g (taken (Orders r.side) 0 q) + of_outcome (g stands) k lots stamp r
queued_outcome g filled lots stamp r q e = omega arith
queued_outcome g refilled lots stamp r q e = queued_put g (order_refilled stamp lots r) (taken (Orders r.side) 0 q)
queued_outcome g reduced lots stamp r q e = queued_set g 0 r (order_reduced lots r) q e

-- after an event: what it leaves untouched, and what it puts in
pub after_event : (g : Measure) (e : Event) (f : MatchState) → MayApply e f → ConsistentQueues f.queues → NumbersUnique f → everywhere g (apply e f) ≡ measure_untouched g e f + measure_in e f g
after_event g (accepts_stop x) f h k s = omega (arith, queued_stop_put g x f.queues)
after_event g (trades o r) f h k s =
    let m : RestingOutcome = outcome (trade_lots o r) r in
    let a : queued g (after_trade m (opposite o.side) (trade_lots o r) f.session.next_stamp r f.queues) ≡ queued g
    (after_outcome m (trade_lots o r) f.session.next_stamp r f.queues) = ap (queued g) (after_trade_trade o r f h k s) in
    let b = queued_outcome g m (trade_lots o r) f.session.next_stamp r f.queues (first_of_own_side o r f h k) in
    let c : queued g (taken (Orders r.side) 0 f.queues) ≡ queued g (taken (Orders (opposite o.side)) 0 f.queues) = ap
    (λ (z : Side). queued g (taken (Orders z) 0 f.queues)) (rest_side o r f h k).0 in
    omega arith
after_event g (rests o) f h k s = omega (arith, queued_put g o f.queues)
after_event g (cancels_resting c n i r) f h k s = let m : of_incoming (g incoming) f.incoming ≡ 0 = ap (of_incoming (g incoming)) h.0 in omega arith
after_event g (amends i o) f h k s =
    let m : of_incoming (g incoming) f.incoming ≡ 0 = ap (of_incoming (g incoming)) h.0.idle in
    let a : queued g (rewritten i (Standing o) f.queues) ≡ queued g (record_set i (Standing o) f.queues) = ap (queued g)
    (rewrites i h.0.was o f.queues h.0.there (sym (same_order_rank h.0.was o h.1))) in
    omega (arith, queued_set g i h.0.was o f.queues h.0.there)
after_event g _ f h k s = omega arith

-- each event leaves consistent queues

queues_outcome : (k : RestingOutcome) (lots stamp : ℕ) (r : Order) (q : Queues) → slice_get (at r.side q.stands) 0 ≡ Some r → ConsistentQueues q → ConsistentQueues (after_outcome k lots stamp r q)
queues_outcome filled lots stamp r q e g = queues_removed r.side 0 r q e g
queues_outcome reduced lots stamp r q e g = queues_set 0 r (order_reduced lots r) q e (record { side = refl; price = refl; turn = refl; number = refl }) g
queues_outcome refilled lots stamp r q e g =
    let s : Side = r.side in
    let l : List Order = remove (at s q.stands) 0 in
    queues_put (order_refilled stamp lots r) (taken (Orders s) 0 q)
    (omega (arith, ap (λ l. suc (length l)) (at_same_side s l q.stands), length_removed (at s q.stands) 0 r e, g.bounded (Orders s)))
    (all_nth (OnSide s) (at s q.stands) 0 r e (g.on_side s)).1 (crosses_none_own s l q.stands (order_refilled stamp lots r)
    (same_crosses_none s q.stands r (order_refilled stamp lots r) refl (nth_crosses_none s 0 r q e g))) (queues_removed s 0 r q e g)

queues_cancel : (n : Queue) (i : ℕ) (r : Record) (q : Queues) → RecordAt n i r q → ConsistentQueues q → ConsistentQueues (taken n i q)
queues_cancel (Orders s) i r q h g = queues_removed s i h.0 q h.2 g
queues_cancel (Stops s) i r q h g = queues_stop_removed s i h.0 q h.2 g

-- the incoming order has a price that fits a rank, and shows as it would when it comes to stand
abbrev pub IncomingReady : Option Order → Type 0
IncomingReady None = Unit {0}
IncomingReady (Some o) = InPriceRange o.price × ShowsInFull o

pub queues_apply : (e : Event) (f : MatchState) → MayApply e f → ConsistentQueues f.queues → NumbersUnique f → IncomingReady f.incoming → ConsistentQueues (apply e f).queues
queues_apply (accepts_stop x) f h g s l = queues_stop_put x f.queues h.has_place h.enters.price_in_range h.price_in_range g
queues_apply (trades o r) f h g s l = subst ConsistentQueues (sym (after_trade_trade o r f h g s)) (queues_outcome (outcome (trade_lots o r) r) (trade_lots o r) f.session.next_stamp r f.queues (first_of_own_side o r f h g) g)
queues_apply (rests o) f h g s l = queues_put o f.queues h.has_place (subst IncomingReady h.is_incoming l).0 (none_within_crosses_none o o.side f.queues.stands h.none_match) g
queues_apply (triggers z x) f h g s l = queues_stop_removed z 0 x f.queues h.1 g
queues_apply (cancels_resting c n i r) f h g s l = queues_cancel n i r f.queues h.1 g
queues_apply (amends i o) f h g s l =
    let x : Order = h.0.was in
    let p = h.1 in
    subst ConsistentQueues (sym (rewrites i x o f.queues h.0.there (sym (same_order_rank x o p)))) (queues_set i x o f.queues h.0.there p g)
queues_apply (requeues z i o) f h g s l = queues_removed z i h.0.was f.queues h.0.there g
queues_apply _ f h g s l = g

incoming_left_ready : (lots : ℕ) (o : Order) → lots ≤ o.open_lots → InPriceRange o.price → IncomingReady (incoming_left lots o)
incoming_left_ready lots o n h = incoming_left_cases lots o IncomingReady n (λ _. tt) (λ more. (h, refilled_shows o.turn lots o more))

pub ready_apply : (e : Event) (f : MatchState) → MayApply e f → ConsistentQueues f.queues → IncomingReady f.incoming → IncomingReady (apply e f).incoming
ready_apply (accepts o) f h g l = (h.price_in_range, h.shows_in_full)
ready_apply (trades o r) f h g l = incoming_left_ready (trade_lots o r) o (omega arith) (subst IncomingReady h.is_incoming l).0
ready_apply (triggers z x) f h g l = ((all_nth (StopOnSide z) (at z f.queues.waits) 0 x h.1 (g.stops_on_side z)).1, refilled_shows f.session.next_stamp 0 x.order (omega arith))
ready_apply (cancels_resting c n i r) f h g l = l
ready_apply (amends i o) f h g l = l
ready_apply (requeues z i o) f h g l = (h.0.changes.price_in_range, h.1)
ready_apply _ f h g l = tt
