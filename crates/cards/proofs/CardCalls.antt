-- What the calls of a front card answer and leave.
use Rattle.std.specs.Prelude.{◌≡◌, ℕ, zero, suc, Bool, true, false, cond, List, Some, None, Option, Ok, Err, ◌≢◌, slice_set, refl}
use Rattle.std.proofs.Common.{ap, sym, subst, ◌∙◌}
use Rattle.std.specs.List.{remove, slice_get}
use Rattle.std.specs.Option.{option_map}
use Rattle.std.proofs.lemmas.Bool.{cond-true, cond-false}
use Rattle.orders.specs.declared.side.Side.{Side}
use Rattle.orders.specs.declared.side.Side.TheVariants.{Buy, Sell}
use Rattle.orders.specs.declared.order.Order.{Order}
use Rattle.orders.specs.declared.order.Stop.{Stop}
use Rattle.books.specs.RankedLists.{ranks_as, swap_allowed, put_by_rank}
use Rattle.books.specs.Model.{Both, at, with_at, Queues, with_stands, with_waits, look_at, found, put_answer, after_put, taken, queue_of, number_of, rank_of, stop_rank_of, rewrite_allowed, record_set, rewritten, record_rank, PutAnswer}
use Rattle.books.specs.declared.queue.Queue.{Queue}
use Rattle.books.specs.declared.queue.Queue.TheVariants.{Orders, Stops}
use Rattle.books.specs.declared.queue.Record.{Record}
use Rattle.books.specs.declared.queue.Record.TheVariants.{Standing, Waiting}
use Rattle.books.specs.declared.queue.PutError.TheVariants.{Full, Twice}
use Rattle.cards.specs.Held.{Held, held_at, held_with, held_without, over, over_first, covered}
use Rattle.cards.specs.CardBounds.{count_same, capacity_same}
use Rattle.cards.proofs.HeldOverFirst.{over_later, over_number, over_is, over_allowed, over_held, over_set, over_removed, over_first_removed}

cond_out : {X Y : Type 0} (f : X → Y) (b : Bool) (x y : X) → f (cond b x y) ≡ cond b (f x) (f y)
cond_out f true x y = refl
cond_out f false x y = refl

-- a side's part of a pair
at_with : {A : Type 0} (s : Side) (a : A) (b : Both A) → at s (with_at s a b) ≡ a
at_with Buy a b = refl
at_with Sell a b = refl

-- a record ranks as its order or stop
first_standing : (h x : Option Order) → over_first record_rank (option_map Standing h) (option_map Standing x) ≡ option_map Standing (over_first rank_of h x)
first_standing None x = refl
first_standing (Some h) None = refl
first_standing (Some h) (Some x) = sym (cond_out (option_map Standing) _ (Some h) (Some x))

first_waiting : (h x : Option Stop) → over_first record_rank (option_map Waiting h) (option_map Waiting x) ≡ option_map Waiting (over_first stop_rank_of h x)
first_waiting None x = refl
first_waiting (Some h) None = refl
first_waiting (Some h) (Some x) = sym (cond_out (option_map Waiting) _ (Some h) (Some x))

ranks_standing : (o : Order) (x : Option Order) → ranks_as record_rank (Standing o) (option_map Standing x) ≡ ranks_as rank_of o x
ranks_standing o None = refl
ranks_standing o (Some x) = refl

ranks_waiting : (o : Stop) (x : Option Stop) → ranks_as record_rank (Waiting o) (option_map Waiting x) ≡ ranks_as stop_rank_of o x
ranks_waiting o None = refl
ranks_waiting o (Some x) = refl

-- the test that a rewrite of a first record makes is the one that it must make
ranks_allowed : (r : Record) (q : Queues) → ranks_as record_rank r (look_at (queue_of r) 0 q) ≡ rewrite_allowed 0 r q
ranks_allowed (Standing o) q = ranks_standing o (slice_get (at o.side q.stands) 0)
ranks_allowed (Waiting x) q = ranks_waiting x (slice_get (at x.order.side q.waits) 0)

-- the same by the answer of a look at the first record
pub allowed_by_look : (r : Record) (q : Queues) (n : Queue) (o : Option Record) (b : Bool) → n ≡ queue_of r → o ≡ look_at n 0 q →
    b ≡ ranks_as record_rank r o → b ≡ rewrite_allowed 0 r q
allowed_by_look r q n o b e l t = t ∙ ap (ranks_as record_rank r) (l ∙ ap (λ m. look_at m 0 q) e) ∙ ranks_allowed r q

module _ (h : Held) (q : Queues) where
  abbrev Q : Queues
  Q = covered h q

  -- each queue with its held record, and what a change of one of them leaves
  stands_at : (s : Side) → at s Q.stands ≡ over rank_of (at s h.orders) (at s q.stands)
  stands_at Buy = refl
  stands_at Sell = refl

  waits_at : (s : Side) → at s Q.waits ≡ over stop_rank_of (at s h.stops) (at s q.waits)
  waits_at Buy = refl
  waits_at Sell = refl

  with_stands_covered : (s : Side) (l : List Order) → covered h (with_stands s l q) ≡ with_stands s (over rank_of (at s h.orders) l) Q
  with_stands_covered Buy l = refl
  with_stands_covered Sell l = refl

  with_waits_covered : (s : Side) (l : List Stop) → covered h (with_waits s l q) ≡ with_waits s (over stop_rank_of (at s h.stops) l) Q
  with_waits_covered Buy l = refl
  with_waits_covered Sell l = refl

  -- questions
  later : (n : Queue) (i : ℕ) → look_at n (suc i) Q ≡ look_at n (suc i) q
  later (Orders s) i = ap (λ (l : List Order). option_map Standing (slice_get l (suc i))) (stands_at s)
      ∙ ap (option_map Standing) (over_later rank_of (at s h.orders) (at s q.stands) i)
  later (Stops s) i = ap (λ (l : List Stop). option_map Waiting (slice_get l (suc i))) (waits_at s)
      ∙ ap (option_map Waiting) (over_later stop_rank_of (at s h.stops) (at s q.waits) i)

  pub look_later : (n : Queue) (i : ℕ) → (i ≢ 0) → look_at n i q ≡ look_at n i Q
  look_later n zero z = absurd (z refl)
  look_later n (suc i) z = sym (later n i)

  pub look_first : (n : Queue) → over_first record_rank (held_at n h) (look_at n 0 q) ≡ look_at n 0 Q
  look_first (Orders s) = first_standing (at s h.orders) (slice_get (at s q.stands) 0)
      ∙ ap (option_map Standing) (sym (over_is rank_of (at s h.orders) (at s q.stands)))
      ∙ ap (λ (l : List Order). option_map Standing (slice_get l 0)) (sym (stands_at s))
  look_first (Stops s) = first_waiting (at s h.stops) (slice_get (at s q.waits) 0)
      ∙ ap (option_map Waiting) (sym (over_is stop_rank_of (at s h.stops) (at s q.waits)))
      ∙ ap (λ (l : List Stop). option_map Waiting (slice_get l 0)) (sym (waits_at s))

  pub found_same : (k : ℕ) → found k q ≡ found k Q
  found_same k = rw (
    over_number rank_of (λ (x : Order). x.number) (λ _. refl) k h.orders.buy q.stands.buy,
    over_number rank_of (λ (x : Order). x.number) (λ _. refl) k h.orders.sell q.stands.sell,
    over_number stop_rank_of (λ (x : Stop). x.order.number) (λ _. refl) k h.stops.buy q.waits.buy,
    over_number stop_rank_of (λ (x : Stop). x.order.number) (λ _. refl) k h.stops.sell q.waits.sell,
  ) refl

  pub answer_same : (r : Record) → put_answer r q ≡ put_answer r Q
  answer_same r = rw (found_same (number_of r), count_same h q (queue_of r), capacity_same h q (queue_of r)) refl

  pub allowed_same : (i : ℕ) (r : Record) → rewrite_allowed i r q ≡ rewrite_allowed i r Q
  allowed_same i (Standing o) = sym (ap (swap_allowed rank_of i o) (stands_at o.side) ∙ over_allowed rank_of (at o.side h.orders) (at o.side q.stands) i o)
  allowed_same i (Waiting x) = sym (ap (swap_allowed stop_rank_of i x) (waits_at x.order.side) ∙ over_allowed stop_rank_of (at x.order.side h.stops) (at x.order.side q.waits) i x)

  -- changes past the first record
  set_later : (i : ℕ) (r : Record) → covered h (record_set (suc i) r q) ≡ record_set (suc i) r Q
  set_later i (Standing o) = let s = o.side in with_stands_covered s (slice_set (at s q.stands) (suc i) o)
      ∙ ap (λ (l : List Order). with_stands s l Q) (over_set rank_of (at s h.orders) (at s q.stands) i o ∙ ap (λ (l : List Order). slice_set l (suc i) o) (sym (stands_at s)))
  set_later i (Waiting x) = let s = x.order.side in with_waits_covered s (slice_set (at s q.waits) (suc i) x)
      ∙ ap (λ (l : List Stop). with_waits s l Q) (over_set stop_rank_of (at s h.stops) (at s q.waits) i x ∙ ap (λ (l : List Stop). slice_set l (suc i) x) (sym (waits_at s)))

  pub rewrite_later : (i : ℕ) (r : Record) → (i ≢ 0) → covered h (rewritten i r q) ≡ rewritten i r Q
  rewrite_later zero r z = absurd (z refl)
  rewrite_later (suc i) r z = cond_out (covered h) (rewrite_allowed (suc i) r q) (record_set (suc i) r q) q ∙ rw (allowed_same (suc i) r, set_later i r) refl

  pub take_later : (n : Queue) (i : ℕ) → (i ≢ 0) → covered h (taken n i q) ≡ taken n i Q
  take_later n zero z = absurd (z refl)
  take_later (Orders s) (suc i) z = with_stands_covered s (remove (at s q.stands) (suc i))
      ∙ ap (λ (l : List Order). with_stands s l Q) (over_removed rank_of (at s h.orders) (at s q.stands) i ∙ ap (λ (l : List Order). remove l (suc i)) (sym (stands_at s)))
  take_later (Stops s) (suc i) z = with_waits_covered s (remove (at s q.waits) (suc i))
      ∙ ap (λ (l : List Stop). with_waits s l Q) (over_removed stop_rank_of (at s h.stops) (at s q.waits) i ∙ ap (λ (l : List Stop). remove l (suc i)) (sym (waits_at s)))

  -- the first record leaves, and with it the one held for it
  take_first : (n : Queue) → covered (held_without n h) (taken n 0 q) ≡ taken n 0 Q
  take_first (Orders Buy) = ap (λ (l : List Order). with_stands Buy l Q) (sym (over_first_removed rank_of h.orders.buy q.stands.buy))
  take_first (Orders Sell) = ap (λ (l : List Order). with_stands Sell l Q) (sym (over_first_removed rank_of h.orders.sell q.stands.sell))
  take_first (Stops Buy) = ap (λ (l : List Stop). with_waits Buy l Q) (sym (over_first_removed stop_rank_of h.stops.buy q.waits.buy))
  take_first (Stops Sell) = ap (λ (l : List Stop). with_waits Sell l Q) (sym (over_first_removed stop_rank_of h.stops.sell q.waits.sell))

  pub first_taken : (n : Queue) (k : Held) (p : Queues) → k ≡ held_without n h → p ≡ taken n 0 q → covered k p ≡ taken n 0 Q
  first_taken n k p e t = ap (λ z. covered z p) e ∙ ap (covered (held_without n h)) t ∙ take_first n

  -- a put where nothing is held
  standing_none : (x : Option Order) → option_map Standing x ≡ None → x ≡ None
  standing_none None e = refl
  standing_none (Some x) e = cc

  waiting_none : (x : Option Stop) → option_map Waiting x ≡ None → x ≡ None
  waiting_none None e = refl
  waiting_none (Some x) e = cc

  put_order : (s : Side) (o : Order) → at s h.orders ≡ None →
      covered h (with_stands s (put_by_rank rank_of o (at s q.stands)) q) ≡ with_stands s (put_by_rank rank_of o (at s Q.stands)) Q
  put_order Buy o e = rw e refl
  put_order Sell o e = rw e refl

  put_stop : (s : Side) (x : Stop) → at s h.stops ≡ None →
      covered h (with_waits s (put_by_rank stop_rank_of x (at s q.waits)) q) ≡ with_waits s (put_by_rank stop_rank_of x (at s Q.waits)) Q
  put_stop Buy x e = rw e refl
  put_stop Sell x e = rw e refl

  pub put_clear : (a : PutAnswer) (r : Record) → held_at (queue_of r) h ≡ None → covered h (after_put a r q) ≡ after_put a r Q
  put_clear (Ok _) (Standing o) e = put_order o.side o (standing_none (at o.side h.orders) e)
  put_clear (Ok _) (Waiting x) e = put_stop x.order.side x (waiting_none (at x.order.side h.stops) e)
  put_clear (Err Full) r e = refl
  put_clear (Err Twice) r e = refl

  -- a rewrite of a first record is held
  set_held : (r : Record) → rewrite_allowed 0 r q ≡ true → covered (held_with r h) q ≡ record_set 0 r Q
  set_held (Standing o) e = go o.side e
    where
      go : (s : Side) → swap_allowed rank_of 0 o (at s q.stands) ≡ true →
          covered (record { orders = with_at s (Some o) h.orders; stops = h.stops }) q ≡ with_stands s (slice_set (at s Q.stands) 0 o) Q
      go Buy e = ap (λ (l : List Order). with_stands Buy l Q) (over_held rank_of h.orders.buy q.stands.buy o e)
      go Sell e = ap (λ (l : List Order). with_stands Sell l Q) (over_held rank_of h.orders.sell q.stands.sell o e)
  set_held (Waiting x) e = go x.order.side e
    where
      go : (s : Side) → swap_allowed stop_rank_of 0 x (at s q.waits) ≡ true →
          covered (record { orders = h.orders; stops = with_at s (Some x) h.stops }) q ≡ with_waits s (slice_set (at s Q.waits) 0 x) Q
      go Buy e = ap (λ (l : List Stop). with_waits Buy l Q) (over_held stop_rank_of h.stops.buy q.waits.buy x e)
      go Sell e = ap (λ (l : List Stop). with_waits Sell l Q) (over_held stop_rank_of h.stops.sell q.waits.sell x e)

  pub held_back : (r : Record) (k : Held) (p : Queues) → k ≡ held_with r h → p ≡ q → true ≡ rewrite_allowed 0 r q → covered k p ≡ rewritten 0 r Q
  held_back r k p e t f = ap (λ z. covered z p) e ∙ ap (covered (held_with r h)) t ∙ set_held r (sym f)
      ∙ sym (cond-true _ (record_set 0 r Q) Q (sym (allowed_same 0 r) ∙ sym f))

  pub refused : (r : Record) → false ≡ rewrite_allowed 0 r q → Q ≡ rewritten 0 r Q
  refused r f = sym (cond-false _ (record_set 0 r Q) Q (sym (allowed_same 0 r) ∙ sym f))

  -- a held record is written into the book below
  standing_some : (x : Option Order) (o : Order) → option_map Standing x ≡ Some (Standing o) → x ≡ Some o
  standing_some None o e = cc
  standing_some (Some x) o e = cc

  waiting_some : (x : Option Stop) (o : Stop) → option_map Waiting x ≡ Some (Waiting o) → x ≡ Some o
  waiting_some None o e = cc
  waiting_some (Some x) o e = cc

  flush_order : (s : Side) (o : Order) → at s h.orders ≡ Some o →
      covered (held_without (Orders s) h) (cond (swap_allowed rank_of 0 o (at s q.stands)) (with_stands s (slice_set (at s q.stands) 0 o) q) q) ≡ Q
  flush_order Buy o e = cond_out (covered (held_without (Orders Buy) h)) _ (with_stands Buy (slice_set q.stands.buy 0 o) q) q
      ∙ sym (cond_out (λ (l : List Order). with_stands Buy l Q) (swap_allowed rank_of 0 o q.stands.buy) (slice_set q.stands.buy 0 o) q.stands.buy)
      ∙ ap (λ (x : Option Order). with_stands Buy (over rank_of x q.stands.buy) Q) (sym e)
  flush_order Sell o e = cond_out (covered (held_without (Orders Sell) h)) _ (with_stands Sell (slice_set q.stands.sell 0 o) q) q
      ∙ sym (cond_out (λ (l : List Order). with_stands Sell l Q) (swap_allowed rank_of 0 o q.stands.sell) (slice_set q.stands.sell 0 o) q.stands.sell)
      ∙ ap (λ (x : Option Order). with_stands Sell (over rank_of x q.stands.sell) Q) (sym e)

  flush_stop : (s : Side) (o : Stop) → at s h.stops ≡ Some o →
      covered (held_without (Stops s) h) (cond (swap_allowed stop_rank_of 0 o (at s q.waits)) (with_waits s (slice_set (at s q.waits) 0 o) q) q) ≡ Q
  flush_stop Buy o e = cond_out (covered (held_without (Stops Buy) h)) _ (with_waits Buy (slice_set q.waits.buy 0 o) q) q
      ∙ sym (cond_out (λ (l : List Stop). with_waits Buy l Q) (swap_allowed stop_rank_of 0 o q.waits.buy) (slice_set q.waits.buy 0 o) q.waits.buy)
      ∙ ap (λ (x : Option Stop). with_waits Buy (over stop_rank_of x q.waits.buy) Q) (sym e)
  flush_stop Sell o e = cond_out (covered (held_without (Stops Sell) h)) _ (with_waits Sell (slice_set q.waits.sell 0 o) q) q
      ∙ sym (cond_out (λ (l : List Stop). with_waits Sell l Q) (swap_allowed stop_rank_of 0 o q.waits.sell) (slice_set q.waits.sell 0 o) q.waits.sell)
      ∙ ap (λ (x : Option Stop). with_waits Sell (over stop_rank_of x q.waits.sell) Q) (sym e)

  flush_there : (r : Record) → Some r ≡ held_at (queue_of r) h → covered (held_without (queue_of r) h) (rewritten 0 r q) ≡ Q
  flush_there (Standing o) e = flush_order o.side o (standing_some (at o.side h.orders) o (sym e))
  flush_there (Waiting x) e = flush_stop x.order.side x (waiting_some (at x.order.side h.stops) x (sym e))

  pub flushed : (r : Record) (n : Queue) (k : Held) (p : Queues) → queue_of r ≡ n → Some r ≡ held_at n h → k ≡ held_without n h →
      p ≡ rewritten 0 r q → covered k p ≡ Q
  flushed r n k p m t e w =
      let Over : Queue → Type 0 = λ z. Some r ≡ held_at z h → covered (held_without z h) (rewritten 0 r q) ≡ Q in
      ap (λ z. covered z p) e ∙ ap (covered (held_without n h)) w ∙ subst Over m (flush_there r) t

  pub none_after : (n : Queue) → held_at n (held_without n h) ≡ None
  none_after (Orders s) = ap (option_map Standing) (at_with s None h.orders)
  none_after (Stops s) = ap (option_map Waiting) (at_with s None h.stops)
