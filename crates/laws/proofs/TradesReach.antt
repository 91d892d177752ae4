-- An incoming order trades at least what it reaches, or all that it has.
use Rattle.std.proofs.Common.{◌≡◌, ℕ, zero, suc, ◌+◌, ◌-◌, ◌<◌, ◌≤◌, min, Bool, true, false, cond, eqb, List, [], ◌∷◌, ◌++◌, Some, None, Option, sym, refl, ap, ◌∙◌, subst, ⊎_elim, arith}
use Rattle.std.specs.List.{remove, AllByRecursion, slice_get}
use Rattle.std.specs.Option.{option_map}
use Rattle.std.proofs.lemmas.Bool.{cond-true, cond-false, eq-eqb, ne_eqb, cases_lt, and_from}
use Rattle.orders.specs.declared.side.Side.{Side}
use Rattle.orders.specs.declared.side.Side.TheVariants.{Buy, Sell}
use Rattle.orders.specs.declared.price.Price.{Price}
use Rattle.orders.specs.declared.order.Order.{Order}
use Rattle.orders.specs.declared.row.OrderRow.{OrderRow}
use Rattle.orders.specs.Sides.{opposite}
use Rattle.orders.specs.Prices.{same_price}
use Rattle.orders.specs.Lots.{order_refilled, within_limit, same_investor}
use Rattle.books.specs.RankedLists.{put_by_rank}
use Rattle.books.specs.declared.queue.Queue.TheVariants.{Orders}
use Rattle.books.specs.declared.queue.Record.TheVariants.{Standing}
use Rattle.books.specs.Model.{Queues, at, rank_of, standing_order, taken}
use Rattle.tapes.specs.declared.cause.Cause.TheVariants.{OwnInvestor}
use Rattle.tapes.specs.declared.line.Line.{Line}
use Rattle.matching.specs.Model.{MatchState, Event, cancels_incoming, trades, rests, triggers, filled, refilled, reduced, outcome, trade_lots, apply}
use Rattle.matching.specs.Running.{total, next_event, next_given, leftover, incoming_event, run_events, incoming_weight, weight, run_to_rest}
use Rattle.matching.specs.Reach.{own, own_price, counts, counted_open_lots, shown_ahead, reach_by, reach}
use Rattle.matching.proofs.WeightFalls.{IsNext, is_next, run_events_next, weight_falls}
use Rattle.laws.specs.Accounts.{counting, traded_lots, quantity_of}
use Rattle.laws.specs.Tally.{stands}
use Rattle.laws.specs.Reaching.{front_traded}
use Rattle.laws.specs.WithinRoom.{event_lines}
use Rattle.laws.proofs.SortedLists.{Sorted}
use Rattle.laws.proofs.ConsistentQueues.{ConsistentQueues, OnSide, at_same_side, none_within_limit}
use Rattle.laws.proofs.SumsOverOrders.{everywhere}
use Rattle.laws.proofs.RowsInBounds.{refilled_row}
use Rattle.laws.proofs.EventsApply.{MayTrade, NumbersUnique, after_outcome, after_trade_trade, rest_side}
use Rattle.laws.proofs.LinesAndStamps.{tape, tape_is}
use Rattle.laws.proofs.TurnsBelowStamp.{turn_undrawn, turn_below}
use Rattle.laws.proofs.RunsToRest.{Consistent, consistent_apply, RunsTo, at_end, at_next, RoomForRest, next_has_room, rest_has_room, run_events_runs}
use Rattle.laws.proofs.ReachFalls.{reach_none_within, reach_own, reach_front_traded}

-- the lines of a tape stay

total-++ : {X : Type 0} (f : X → ℕ) (l k : List X) → total f (l ++ k) ≡ total f l + total f k
total-++ f [] k = omega arith
total-++ f (x ∷ l) k = let ih = total-++ f l k in omega arith

pub runs_to_more : (g : Line → ℕ) {f h : MatchState} → RunsTo f h → total g (tape f) ≤ total g (tape h)
runs_to_more g at_end = omega arith
runs_to_more g (at_next {f} e n r l) =
    let ih = runs_to_more g l in
    let a : total g (tape (apply e f)) ≡ total g (event_lines e ++ tape f) = ap (total g) (tape_is e f r) in
    omega (arith, total-++ g (event_lines e) (tape f))

-- no event that is next changes a quantity
same_quantity : (n : ℕ) (e : Event) (f : MatchState) (l : List Line) → IsNext e f → quantity_of n (event_lines e ++ l) ≡ quantity_of n l
same_quantity n (cancels_incoming c o) f l i = refl
same_quantity n (trades o r) f l i = refl
same_quantity n (rests o) f l i = refl
same_quantity n (triggers s x) f l i = refl
same_quantity n _ f l i = absurd i

pub runs_to_quantity : (n : ℕ) {f h : MatchState} → RunsTo f h → quantity_of n (tape h) ≡ quantity_of n (tape f)
runs_to_quantity n at_end = refl
runs_to_quantity n (at_next {f} e x r l) = runs_to_quantity n l ∙ (ap (quantity_of n) (tape_is e f r) ∙ same_quantity n e f (tape f) x.1)

-- reach reads side, limit and investor alone

module _ (turn lots : ℕ) (o : Order) where
  same_own : (l : List Order) → own_price (order_refilled turn lots o) l ≡ own_price o l
  same_own [] = refl
  same_own (r ∷ l) = ap (λ m. cond (own o r) (Some r.price) m) (same_own l)

  same_open : (m : Option Price) (l : List Order) → counted_open_lots (order_refilled turn lots o) m l ≡ counted_open_lots o m l
  same_open m [] = refl
  same_open None (r ∷ l) = ap (λ n. cond (counts o None r) r.open_lots 0 + n) (same_open None l)
  same_open (Some p) (r ∷ l) = ap (λ n. cond (counts o (Some p) r) r.open_lots 0 + n) (same_open (Some p) l)

  same_shown : (p : Price) (l : List Order) → shown_ahead (order_refilled turn lots o) p l ≡ shown_ahead o p l
  same_shown p [] = refl
  same_shown p (r ∷ l) = ap (λ n. cond (own o r) 0 (cond (same_price r.price p) r.shown 0 + n)) (same_shown p l)

  same_by : (m : Option Price) (l : List Order) → reach_by m (order_refilled turn lots o) l ≡ reach_by m o l
  same_by None l = same_open None l
  same_by (Some p) l = omega (arith, same_open (Some p) l, same_shown p l)

  same_reach : (l : List Order) → reach (order_refilled turn lots o) l ≡ reach o l
  same_reach l = ap (λ m. reach_by m (order_refilled turn lots o) l) (same_own l) ∙ same_by (own_price o l) l

-- the turn of a standing order is below the next stamp
all_turns_drawn : (stamp : ℕ) (l : List Order) → total (turn_undrawn stamp stands) l ≡ 0 → AllByRecursion (λ (y : Order). y.turn < stamp) l
all_turns_drawn stamp [] e = tt
all_turns_drawn stamp (y ∷ l) e = (turn_below stamp stands y (omega arith), all_turns_drawn stamp l (omega arith))

pub standing_turns_drawn : (s : Side) (f : MatchState) → everywhere (turn_undrawn f.session.next_stamp) f ≡ 0 → AllByRecursion (λ (y : Order). y.turn < f.session.next_stamp) (at s f.queues.stands)
standing_turns_drawn Buy f e = all_turns_drawn f.session.next_stamp f.queues.stands.buy (omega arith)
standing_turns_drawn Sell f e = all_turns_drawn f.session.next_stamp f.queues.stands.sell (omega arith)

-- the queue that a trade met, when all that its first order shows was traded
queue_front_traded : (o r : Order) (rest : List Order) (f : MatchState) → MayTrade o r f → ConsistentQueues f.queues → NumbersUnique f → at (opposite o.side) f.queues.stands ≡ r ∷ rest →
    trade_lots o r ≡ r.shown →
    at (opposite o.side) (apply (trades o r) f).queues.stands ≡ front_traded f.session.next_stamp r rest
queue_front_traded o r rest f h g s e k =
    let z : Side = opposite o.side in
    let d : r.side ≡ z = (rest_side o r f h g).0 in
    let n : ℕ = f.session.next_stamp in
    ap (λ (q : Queues). at z q.stands) (after_trade_trade o r f h g s)
    ∙ (subst (λ m. at z (after_outcome (outcome m r) m n r f.queues).stands ≡ front_traded n r rest) (sym k)
    (subst (λ (y : Side). at y (after_outcome (outcome r.shown r) r.shown n r f.queues).stands ≡ front_traded n r rest) d
    (go (subst (λ (y : Side). at y f.queues.stands ≡ r ∷ rest) (sym d) e))))
  where
    go : at r.side f.queues.stands ≡ r ∷ rest →
        at r.side (after_outcome (outcome r.shown r) r.shown f.session.next_stamp r f.queues).stands ≡ front_traded f.session.next_stamp r rest
    go e = cases (eqb r.open_lots r.shown) refl
      where
        n : ℕ
        n = f.session.next_stamp

        left : at r.side (taken (Orders r.side) 0 f.queues).stands ≡ rest
        left = at_same_side r.side (remove (at r.side f.queues.stands) 0) f.queues.stands ∙ ap (λ l. remove l 0) e

        cases : (b : Bool) → eqb r.open_lots r.shown ≡ b →
            at r.side (after_outcome (cond b filled (cond (eqb r.shown r.shown) refilled reduced)) r.shown f.session.next_stamp r
            f.queues).stands ≡ cond b rest (put_by_rank rank_of (order_refilled f.session.next_stamp r.shown r) rest)
        cases true _ = left
        cases false _ =
            let y : Order = order_refilled f.session.next_stamp r.shown r in
            let t : Queues = taken (Orders r.side) 0 f.queues in
            subst (λ b. at r.side (after_outcome (cond b refilled reduced) r.shown f.session.next_stamp r f.queues).stands ≡ put_by_rank rank_of y rest) (sym (eq-eqb r.shown r.shown refl))
            (at_same_side r.side (put_by_rank rank_of y (at r.side t.stands)) t.stands ∙ ap (put_by_rank rank_of y) left)

-- the lots of a number on the trade lines
abbrev pub traded_on : ℕ → MatchState → ℕ
traded_on n f = total (traded_lots n) (tape f)

counts_own : (n lots : ℕ) → counting n n lots ≡ lots
counts_own n lots = cond-true (eqb n n) lots 0 (eq-eqb n n refl)

-- the incoming order trades at least the smaller of its open lots and its reach
run_events_trades : (k : ℕ) (f : MatchState) (o : Order) → Consistent f → RoomForRest f → f.incoming ≡ Some o → weight f ≤ k →
    min o.open_lots (reach o (at (opposite o.side) f.queues.stands)) + traded_on o.number f ≤ traded_on o.number (run_events k f)
run_events_trades zero f o s h w m = let z : incoming_weight f.incoming ≡ 17 = ap incoming_weight w in absurd (omega arith)
run_events_trades (suc k) f o s h w m = go (at (opposite o.side) f.queues.stands) refl (run_events_trades k)
  where
    z : Side
    z = opposite o.side

    -- nothing is reached
    nothing_reached : (R : ℕ) → R ≡ 0 → min o.open_lots R + traded_on o.number f ≤ traded_on o.number (run_events (suc k) f)
    nothing_reached R e = omega (arith, runs_to_more (traded_lots o.number) (run_events_runs (suc k) f s h))

    go : (l : List Order) → at (opposite o.side) f.queues.stands ≡ l →
        ((f : MatchState) (o : Order) → Consistent f → RoomForRest f → f.incoming ≡ Some o → weight f ≤ k → min o.open_lots
        (reach o (at (opposite o.side) f.queues.stands)) + traded_on o.number f ≤ traded_on o.number (run_events k f)) →
        min o.open_lots (reach o l) + traded_on o.number f ≤ traded_on o.number (run_events (suc k) f)
    go [] e ih = nothing_reached 0 refl
    go (r ∷ rest) e ih = by_limit (within_limit o.side o.price r.price) refl
      where
        sorted : Sorted rank_of (r ∷ rest)
        sorted = subst (Sorted rank_of) e (s.queues.sorted (opposite o.side))

        on_side : AllByRecursion (OnSide (opposite o.side)) (r ∷ rest)
        on_side = subst (AllByRecursion (OnSide (opposite o.side))) e (s.queues.on_side (opposite o.side))

        drawn : AllByRecursion (λ (y : Order). y.turn < f.session.next_stamp) (r ∷ rest)
        drawn = subst (AllByRecursion (λ (y : Order). y.turn < f.session.next_stamp)) e (standing_turns_drawn (opposite o.side) f s.turns_below)

        trade : within_limit o.side o.price r.price ≡ true → same_investor o r ≡ false →
            min o.open_lots (reach o (r ∷ rest)) + traded_on o.number f ≤ traded_on o.number (run_events (suc k) f)
        trade a b =
            let ev : Event = trades o r in
            let n : ℕ = o.number in
            let fit : MayTrade o r f = record { is_incoming = w; first = ap (λ l. slice_get l 0) e; within_its_limit = a } in
            let nx : next_event f ≡ Some ev = ap (λ h. next_given h f) w
            ∙ (ap (λ l. Some (incoming_event o (standing_order (option_map Standing (slice_get l 0))) f.queues)) e
            ∙ ap Some (cond-true (within_limit o.side o.price r.price) (cond (same_investor o r) (cancels_incoming OwnInvestor o) (trades o r))
            (leftover o f.queues) a ∙ cond-false (same_investor o r) (cancels_incoming OwnInvestor o) (trades o r) b)) in
            let li = weight_falls ev f nx in
            let room = next_has_room ev f (is_next ev f nx) li h in
            let consistent = consistent_apply ev f fit room s in
            let enough = rest_has_room ev f (is_next ev f nx) li h in
            let f' : MatchState = apply ev f in
            let same : traded_on n (run_events (suc k) f) ≡ traded_on n (run_events k f') = ap (traded_on n) (run_events_next k f (Some ev) nx) in
            let grew : traded_on n f' ≡ (counting n n (trade_lots o r) + counting n r.number (trade_lots o r)) + traded_on n f = ap (total (traded_lots n)) (tape_is ev f room) in
            let own-lots = counts_own n (trade_lots o r) in
            let more = runs_to_more (traded_lots n) (run_events_runs k f' consistent enough) in
            ⊎_elim
            (λ (c : r.shown < o.open_lots).
            let dl : trade_lots o r ≡ r.shown = omega arith in
            let o' : Order = order_refilled o.turn (trade_lots o r) o in
            let hd : f'.incoming ≡ Some o' = cond-false (eqb o.open_lots (trade_lots o r)) None (Some o') (ne_eqb o.open_lots (trade_lots o r) (λ q. omega arith)) in
            let lv : o'.open_lots ≡ o.open_lots - trade_lots o r = ap (λ (q : OrderRow). q.open_lots) (refilled_row o.turn (trade_lots o r) o (omega arith)) in
            let i = ih f' o' consistent enough hd (omega arith) in
            let l' : List Order = at (opposite o.side) f'.queues.stands in
            let rc : reach o' l' ≡ reach o (front_traded f.session.next_stamp r rest) = same_reach o.turn (trade_lots o r) o l' ∙ ap (reach o) (queue_front_traded o r rest f fit s.queues s.accounted.numbers_unique e dl) in
            let wr = reach_front_traded o r rest f.session.next_stamp a b sorted on_side drawn.1 in
            omega arith)
            (λ (c : o.open_lots ≤ r.shown). omega arith)
            (cases_lt r.shown o.open_lots)

        by_investor : (b : Bool) → within_limit o.side o.price r.price ≡ true → same_investor o r ≡ b →
            min o.open_lots (reach o (r ∷ rest)) + traded_on o.number f ≤ traded_on o.number (run_events (suc k) f)
        by_investor true a i = nothing_reached (reach o (r ∷ rest)) (reach_own o r rest (and_from (same_investor o r) (within_limit o.side o.price r.price) i a) sorted on_side)
        by_investor false a i = trade a i

        by_limit : (b : Bool) → within_limit o.side o.price r.price ≡ b →
            min o.open_lots (reach o (r ∷ rest)) + traded_on o.number f ≤ traded_on o.number (run_events (suc k) f)
        by_limit true a = by_investor (same_investor o r) a refl
        by_limit false a = nothing_reached (reach o (r ∷ rest)) (reach_none_within o (r ∷ rest) (none_within_limit o.side o.price r rest sorted on_side a))

pub run_to_rest_trades : (f : MatchState) (o : Order) → Consistent f → RoomForRest f → f.incoming ≡ Some o →
    min o.open_lots (reach o (at (opposite o.side) f.queues.stands)) + traded_on o.number f ≤ traded_on o.number (run_to_rest f)
unfolding run_to_rest
run_to_rest_trades f o s h w = run_events_trades (weight f) f o s h w (omega arith)
