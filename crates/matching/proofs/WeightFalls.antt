-- What is known of the next event, that each takes one of the weight, and so that a run comes to rest.
use Rattle.std.proofs.Common.{Ok, Err, ◌≡◌, ℕ, zero, suc, ◌+◌, ◌<◌, ◌≤◌, Bool, true, false, cond, Some, None, Option, sym, refl, ap, ◌∙◌, subst, arith}
use Rattle.std.proofs.lemmas.Bool.{cond_both}
use Rattle.orders.specs.declared.side.Side.{Side}
use Rattle.orders.specs.declared.side.Side.TheVariants.{Buy, Sell}
use Rattle.orders.specs.declared.order.Order.{Order}
use Rattle.orders.specs.declared.order.Stop.{Stop}
use Rattle.orders.specs.declared.price.Price.{Price}
use Rattle.orders.specs.Sides.{opposite, is_immediate}
use Rattle.orders.specs.Lots.{order_reduced, order_refilled, within_limit, same_investor}
use Rattle.tapes.specs.declared.cause.Cause.{Cause}
use Rattle.tapes.specs.declared.cause.Cause.TheVariants.{Leftover, OwnInvestor, NotPut}
use Rattle.books.specs.declared.queue.PutError.{PutError}
use Rattle.books.specs.declared.queue.PutError.TheVariants.{Full, Twice}
use Rattle.books.specs.declared.queue.Queue.TheVariants.{Orders}
use Rattle.books.specs.declared.queue.Record.TheVariants.{Standing}
use Rattle.books.specs.Model.{Queues, put_answer, taken, PutAnswer}
use Rattle.matching.specs.Model.{MatchState, Event, cancels_incoming, trades, rests, triggers, outcome, after_trade, incoming_left, trade_lots, apply}
use Rattle.matching.specs.Running.{next_event, next_given, first_order, first_stop, rests_or_cancels, leftover, incoming_event, ripe, if_ripe, lower_turn, trigger_event, go_on_with, run_events, parts, incoming_weight, queues_weight, weight, run_to_rest}
use Rattle.matching.proofs.OutcomeCases.{outcome_cases, incoming_left_cases}
use Rattle.matching.proofs.PartsFall.{parts_most, parts_least, parts_refilled}
use Rattle.matching.proofs.WeightOfQueues.{load_taken, load_triggered, load_placed, load_put_back, load_rewritten}

-- an order that was cancelled because put refused it
abbrev pub IfRefused : Cause → Order → Queues → Type 0
IfRefused NotPut o q = (error : PutError) × (put_answer (Standing o) q ≡ Err error)
IfRefused _ o q = Unit {0}

-- no opposite order stands, or the first one's price is not within the limit
abbrev pub NoMatch : Order → Option Order → Type 0
NoMatch o None = Unit {0}
NoMatch o (Some r) = within_limit o.side o.price r.price ≡ false

-- what is known where an event is next
abbrev pub IsNext : Event → MatchState → Type 0
IsNext (cancels_incoming c o) f = (f.incoming ≡ Some o) × IfRefused c o f.queues
IsNext (trades o r) f = (f.incoming ≡ Some o) × (first_order (opposite o.side) f.queues ≡ Some r) × (within_limit o.side o.price r.price ≡ true)
IsNext (rests o) f = (f.incoming ≡ Some o) × (put_answer (Standing o) f.queues ≡ Ok tt) × NoMatch o (first_order (opposite o.side) f.queues)
IsNext (triggers s x) f = (f.incoming ≡ None) × (first_stop s f.queues ≡ Some x)
IsNext _ f = ⊥

abbrev IsNext? : Option Event → MatchState → Type 0
IsNext? None f = Unit {0}
IsNext? (Some e) f = IsNext e f

next_rests_or_cancels : (p : PutAnswer) (o : Order) (f : MatchState) → put_answer (Standing o) f.queues ≡ p → f.incoming ≡ Some o →
    NoMatch o (first_order (opposite o.side) f.queues) → IsNext (rests_or_cancels p o) f
next_rests_or_cancels (Ok _) o f e h n = (h, e, n)
next_rests_or_cancels (Err Full) o f e h n = (h, (Full, e))
next_rests_or_cancels (Err Twice) o f e h n = (h, (Twice, e))

next_leftover : (o : Order) (f : MatchState) → f.incoming ≡ Some o → NoMatch o (first_order (opposite o.side) f.queues) → IsNext (leftover o f.queues) f
next_leftover o f h n =
    cond_both (is_immediate o.validity) (cancels_incoming Leftover o) (rests_or_cancels (put_answer (Standing o) f.queues) o) (λ e. IsNext e f) (λ _. (h, tt))
    (λ _. next_rests_or_cancels (put_answer (Standing o) f.queues) o f refl h n)

next_incoming : (o : Order) (m : Option Order) (f : MatchState) → f.incoming ≡ Some o → first_order (opposite o.side) f.queues ≡ m → IsNext (incoming_event o m f.queues) f
next_incoming o None f h e = next_leftover o f h (subst (NoMatch o) (sym e) tt)
next_incoming o (Some r) f h e =
    cond_both (within_limit o.side o.price r.price) (cond (same_investor o r) (cancels_incoming OwnInvestor o) (trades o r)) (leftover o f.queues) (λ e. IsNext e f)
    (λ w. cond_both (same_investor o r) (cancels_incoming OwnInvestor o) (trades o r) (λ e. IsNext e f) (λ _. (h, tt)) (λ _. (h, e, w)))
    (λ w. next_leftover o f h (subst (NoMatch o) (sym e) w))

-- a ripe first stop is the first of its queue
ripe_is_first : (s : Side) (last : Option Price) (m : Option Stop) (x : Stop) → if_ripe s last m ≡ Some x → m ≡ Some x
ripe_is_first s last None x e = e
ripe_is_first s last (Some y) x e = go (ripe s last y.trigger) e
  where
    go : (b : Bool) → cond b (Some y) None ≡ Some x → Some y ≡ Some x
    go true e = e
    go false e = let z : ◌≡◌ {A = ℕ} 0 1 = cc in absurd (omega arith)

next_trigger : (f : MatchState) (a b : Option Stop) → f.incoming ≡ None → ((x : Stop) → a ≡ Some x → first_stop Buy f.queues ≡ Some x) → ((y : Stop) → b ≡ Some y → first_stop Sell f.queues ≡ Some y) → IsNext? (trigger_event (lower_turn a b)) f
next_trigger f None None h p q = tt
next_trigger f (Some x) None h p q = (h, p x refl)
next_trigger f None (Some y) h p q = (h, q y refl)
next_trigger f (Some x) (Some y) h p q = cond_both _ (Some (Sell, y)) (Some (Buy, x)) (λ m. IsNext? (trigger_event m) f) (λ _. (h, q y refl)) (λ _. (h, p x refl))

next_with : (f : MatchState) (m : Option Order) → f.incoming ≡ m → IsNext? (next_given m f) f
next_with f (Some o) h = next_incoming o (first_order (opposite o.side) f.queues) f h refl
next_with f None h =
    next_trigger f (if_ripe Buy f.session.last_price (first_stop Buy f.queues)) (if_ripe Sell f.session.last_price (first_stop Sell f.queues)) h
    (λ x e. ripe_is_first Buy f.session.last_price (first_stop Buy f.queues) x e)
    (λ y e. ripe_is_first Sell f.session.last_price (first_stop Sell f.queues) y e)

pub is_next : (e : Event) (f : MatchState) → next_event f ≡ Some e → IsNext e f
is_next e f n = rw n at (next_with f f.incoming refl)

incoming_weight_most : (lots : ℕ) (o : Order) → lots ≤ o.open_lots → incoming_weight (incoming_left lots o) ≤ 17
incoming_weight_most lots o h = incoming_left_cases lots o (λ m. incoming_weight m ≤ 17) h (λ _. omega arith) (λ _. omega arith)

incoming_weight_none : (lots : ℕ) (o : Order) → o.open_lots ≡ lots → incoming_weight (incoming_left lots o) ≡ 0
incoming_weight_none lots o e = incoming_left_cases lots o (λ m. incoming_weight m ≡ 0) (omega arith) (λ _. refl) (λ h. absurd (omega arith))

-- a trade spends one of the weight
trade_spends : (s : Side) (stamp : ℕ) (o r : Order) (q : Queues) → first_order s q ≡ Some r → suc (queues_weight (after_trade (outcome (trade_lots o r) r) s (trade_lots o r) stamp r q) + incoming_weight (incoming_left (trade_lots o r) o)) ≤ queues_weight q + 17
trade_spends s stamp o r q e =
    let n : ℕ = trade_lots o r in
    let a = incoming_weight_most n o (omega arith) in
    let t = load_taken s r q e in
    let l = parts_least r in
    outcome_cases n r (λ k. suc (queues_weight (after_trade k s n stamp r q) + incoming_weight (incoming_left n o)) ≤ queues_weight q + 17) (omega arith)
    (λ _. omega arith)
    (λ shown more.
    let p = load_put_back (order_refilled stamp n r) (taken (Orders s) 0 q) in
    let u : suc (parts (order_refilled stamp n r)) ≤ parts r = subst (λ k. suc (parts (order_refilled stamp k r)) ≤ parts r) shown (parts_refilled stamp r (omega arith)) in
    omega arith)
    (λ less.
    let p = load_rewritten 0 (order_reduced n r) q in
    let h = incoming_weight_none n o (omega arith) in
    omega arith)

incoming_weight_is : (m : Option Order) (o : Order) → m ≡ Some o → incoming_weight m ≡ 17
incoming_weight_is m o e = ap incoming_weight e

-- each event that is next spends one of the weight
next_spends : (e : Event) (f : MatchState) → IsNext e f → suc (weight (apply e f)) ≤ weight f
next_spends (cancels_incoming c o) f h = omega (arith, incoming_weight_is f.incoming o h.0)
next_spends (trades o r) f h = omega (arith, incoming_weight_is f.incoming o h.0, trade_spends (opposite o.side) f.session.next_stamp o r f.queues h.1)
next_spends (rests o) f h = omega (arith, incoming_weight_is f.incoming o h.0, load_placed o f.queues, parts_most o)
next_spends (triggers s x) f h = let z : incoming_weight f.incoming ≡ 0 = ap incoming_weight h.0 in omega (arith, load_triggered s x f.queues h.1)
next_spends _ f h = absurd h

pub run_events_next : (k : ℕ) (f : MatchState) (m : Option Event) → next_event f ≡ m → run_events (suc k) f ≡ go_on_with m (λ e. run_events k (apply e f)) f
unfolding run_events
run_events_next k f m n = ap (λ (m : Option Event). go_on_with m (λ e. run_events k (apply e f)) f) n

pub run_events_zero : (f : MatchState) → run_events 0 f ≡ f
unfolding run_events
run_events_zero f = refl

pub weight_falls : (e : Event) (f : MatchState) → next_event f ≡ Some e → suc (weight (apply e f)) ≤ weight f
weight_falls e f n = next_spends e f (is_next e f n)

-- fuel beyond the weight changes nothing
run_events_same : (k j : ℕ) (f : MatchState) → weight f ≤ k → weight f ≤ j → run_events k f ≡ run_events j f
run_events_same zero zero f v w = refl
run_events_same zero (suc j) f v w = go (next_event f) refl
  where
    go : (m : Option Event) → next_event f ≡ m → run_events 0 f ≡ run_events (suc j) f
    go None n = run_events_zero f ∙ sym (run_events_next j f None n)
    go (Some e) n = absurd (omega (arith, weight_falls e f n))
run_events_same (suc k) zero f v w = go (next_event f) refl
  where
    go : (m : Option Event) → next_event f ≡ m → run_events (suc k) f ≡ run_events 0 f
    go None n = run_events_next k f None n ∙ sym (run_events_zero f)
    go (Some e) n = absurd (omega (arith, weight_falls e f n))
run_events_same (suc k) (suc j) f v w = go (next_event f) refl (run_events_same k j)
  where
    go : (m : Option Event) → next_event f ≡ m → ((f : MatchState) → weight f ≤ k → weight f ≤ j → run_events k f ≡ run_events j f) → run_events (suc k) f ≡ run_events (suc j) f
    go None n ih = run_events_next k f None n ∙ sym (run_events_next j f None n)
    go (Some e) n ih = let l = weight_falls e f n in run_events_next k f (Some e) n ∙ (ih (apply e f) (omega arith) (omega arith) ∙ sym (run_events_next j f (Some e) n))

pub run_to_rest_next : (f : MatchState) (e : Event) → next_event f ≡ Some e → run_to_rest f ≡ run_to_rest (apply e f)
unfolding run_to_rest
run_to_rest_next f e n =
    let l = weight_falls e f n in
    run_events_same (weight f) (suc (weight f)) f (omega arith) (omega arith)
    ∙ (run_events_next (weight f) f (Some e) n ∙ run_events_same (weight f) (weight (apply e f)) (apply e f) (omega arith) (omega arith))

pub run_to_rest_end : (f : MatchState) → next_event f ≡ None → run_to_rest f ≡ f
unfolding run_to_rest
run_to_rest_end f n = go (weight f)
  where
    go : (k : ℕ) → run_events k f ≡ f
    go zero = run_events_zero f
    go (suc k) = run_events_next k f None n

-- one turn of a loop that does the next event
pub record Turn (f g : MatchState) : Type 0 where
  pub same_rest : run_to_rest g ≡ run_to_rest f
  pub weight_falls : weight g < weight f

pub turn : (f g : MatchState) (e : Event) → next_event f ≡ Some e → g ≡ apply e f → Turn f g
turn f g e n h =
    let T : MatchState → Type 0 = λ g. Turn f g in
    subst T (sym h) (record { same_rest = sym (run_to_rest_next f e n); weight_falls = weight_falls e f n })
