-- Each trade is fair by the tally that agrees with the match state.
use Rattle.std.proofs.Common.{◌≡◌, ℕ, ◌+◌, ◌<◌, Bool, true, false, cond, ◌&&◌, ◌||◌, eqb, ◌⊎◌, List, [], ◌∷◌, Some, sym, refl, ◌∙◌, subst, inl, inr, arith}
use Rattle.std.specs.List.{AllByRecursion, slice_get}
use Rattle.std.proofs.lemmas.Bool.{cond-true, both_ways, eq-eqb, or_left, or_right, leb-true, le-leb}
use Rattle.std.proofs.ByRecursion.{All-weaker}
use Rattle.std.proofs.lemmas.Bool.Decides.{nat_tests}
use Rattle.orders.specs.declared.side.Side.{Side}
use Rattle.orders.specs.declared.side.Side.TheVariants.{Buy, Sell}
use Rattle.orders.specs.declared.price.Price.{Price}
use Rattle.orders.specs.declared.order.Order.{Order}
use Rattle.orders.specs.declared.row.OrderRow.{OrderRow}
use Rattle.orders.specs.declared.rank.Rank.{Rank}
use Rattle.orders.specs.Prices.{level}
use Rattle.orders.specs.Ranks.{ranks_ahead, order_rank, order_key}
use Rattle.orders.specs.Rows.{row_of}
use Rattle.orders.specs.Sides.{opposite}
use Rattle.orders.specs.Lots.{within_limit}
use Rattle.books.specs.Model.{Both, Queues, at, rank_of}
use Rattle.matching.specs.Model.{MatchState, Event, trades}
use Rattle.matching.specs.Running.{total}
use Rattle.laws.specs.Tally.{stands, incoming, Account, Tally, stands_on}
use Rattle.laws.specs.Fair.{Foremost, Fair}
use Rattle.laws.proofs.SortedLists.{Sorted, not_ahead_of_itself, nth_first}
use Rattle.laws.proofs.ConsistentQueues.{ConsistentQueues, InPriceRange, OnSide, CrossesNone, nth_crosses_none}
use Rattle.laws.proofs.SumsOverOrders.{with_number}
use Rattle.laws.proofs.EventsApply.{MayApply, IncomingReady, before_event, rest_side, counts_itself}
use Rattle.laws.proofs.RunsToRest.{Consistent}
use Rattle.laws.proofs.TallyAgrees.{RowMeasure, of_tally_row, TallyAgrees, traders_only, counts_nothing}
use Rattle.laws.proofs.FirstPrices.{none_stands}

-- how many accounts stand ahead of an order
abbrev count_ahead : Tally → OrderRow → ℕ
count_ahead t x = total (λ a. cond (stands_on x.side a.status a.order && ranks_ahead (order_rank a.order) (order_rank x)) 1 0) t.accounts

-- 1 where a price is past the limit of an order
abbrev past_limit : Price → OrderRow → ℕ
past_limit price x = cond (within_limit x.side x.price price) 0 1

-- no order of its side stands ahead of an order that trades

later_key : (a b : Rank) → b.key < a.key → ranks_ahead a b ≡ false
later_key a b h = grind (arith, nat_tests)

-- the first price is further from the other side than the second
abbrev Further : Side → Price → Price → Type 0
Further Buy p q = level p < level q
Further Sell p q = level q < level p

-- an incoming order ranks ahead of an order of its side that is priced further from the other side than the order that it meets
further_key : (s : Side) (x o r : Price) → InPriceRange o → within_limit s o r ≡ true → Further s x r → order_key s o < order_key s x
further_key Buy x o r l w b = let k = leb-true (level r) (level o) w in omega arith
further_key Sell x o r l w b = let k = leb-true (level o) (level r) w in omega arith

further_behind : (s : Side) (o r : Order) (k : List Order) → o.side ≡ s → InPriceRange o.price → within_limit s o.price r.price ≡ true → AllByRecursion (OnSide s) k →
    AllByRecursion (λ (x : Order). Further s x.price r.price) k → AllByRecursion (λ (x : Order). ranks_ahead (rank_of x) (rank_of o) ≡ false) k
further_behind s o r [] e l w d h = tt
further_behind s o r (x ∷ k) e l w d h = (
  later_key (rank_of x) (rank_of o) (subst (λ (z : Side). order_key o.side o.price < order_key z x.price) (sym d.0.0)
      (subst (λ (z : Side). order_key z o.price < order_key s x.price) (sym e) (further_key s x.price o.price r.price l w h.0))),
  further_behind s o r k e l w d.1 h.1,
)

all_behind : (s : Side) (o r : Order) (b : Both (List Order)) → o.side ≡ s → InPriceRange o.price → within_limit s o.price r.price ≡ true → AllByRecursion (OnSide s) (at s b) →
    CrossesNone (opposite s) b r → AllByRecursion (λ (x : Order). ranks_ahead (rank_of x) (rank_of o) ≡ false) (at s b)
all_behind Buy o r b e l w d c = further_behind Buy o r b.buy e l w d c
all_behind Sell o r b e l w d c = further_behind Sell o r b.sell e l w d c

within_itself : (s : Side) (p : Price) → within_limit s p p ≡ true
within_itself Buy p = le-leb (level p) (level p) (omega arith)
within_itself Sell p = le-leb (level p) (level p) (omega arith)

first_foremost : (s : Side) (r : Order) (q : Queues) → slice_get (at s q.stands) 0 ≡ Some r → ConsistentQueues q →
    AllByRecursion (λ (x : Order). ranks_ahead (rank_of x) (rank_of r) ≡ false) (at s q.stands)
first_foremost s r q e g =
    let n = nth_first (at s q.stands) r e in
    let h = subst (Sorted rank_of) n.1 (g.sorted s) in
    subst (AllByRecursion (λ (x : Order). ranks_ahead (rank_of x) (rank_of r) ≡ false)) (sym n.1) (not_ahead_of_itself (rank_of r), h.0)

pub fair_trades : (o r : Order) (f : MatchState) → MayApply (trades o r) f → Consistent f → (t : Tally) → TallyAgrees t f → Fair o.number r.number r.price t
fair_trades o r f fit s t m =
    let e : Event = trades o r in
    let p : Price = r.price in
    let z : Side = o.side in
    let w : RowMeasure = λ _ x. past_limit p x + count_ahead t x in
    let d = rest_side o r f fit s.queues in
    let low : InPriceRange o.price = (subst IncomingReady fit.is_incoming s.incoming_ready).0 in
    let a : count_ahead t (row_of o) ≡ 0 = m.sums (λ q x. cond (stands_on z q x && ranks_ahead (order_rank x) (order_rank (row_of o))) 1 0) ∙ none_stands z
    (λ x. ranks_ahead (order_rank x) (order_rank (row_of o))) f s.queues
    (all_behind z o r f.queues.stands refl low fit.within_its_limit (s.queues.on_side z) (nth_crosses_none (opposite z) 0 r f.queues fit.first s.queues)) in
    let c : count_ahead t (row_of r) ≡ 0 = m.sums (λ q x. cond (stands_on r.side q x && ranks_ahead (order_rank x) (order_rank (row_of r))) 1 0) ∙ none_stands
    r.side (λ x. ranks_ahead (order_rank x) (order_rank (row_of r))) f s.queues
    (subst (λ (y : Side). AllByRecursion (λ (x : Order). ranks_ahead (rank_of x) (rank_of r) ≡ false) (at y f.queues.stands)) (sym d.0) (first_foremost (opposite z) r f.queues fit.first s.queues)) in
    let b : past_limit p (row_of o) ≡ 0 = cond-true {A = ℕ} (within_limit z o.price p) 0 1 fit.within_its_limit in
    let k : past_limit p (row_of r) ≡ 0 = cond-true {A = ℕ} (within_limit r.side p p) 0 1 (within_itself r.side p) in
    let named : OrderRow → Bool = λ x. eqb x.number o.number || eqb x.number r.number in
    let zero-sum : total (λ a. cond (named a.order) (w a.status a.order) 0) t.accounts ≡ 0 =
    m.sums (λ q x. cond (named x) (w q x) 0) ∙ (traders_only o r f fit s (of_tally_row w) ∙ (let u : w incoming (row_of o) + w stands (row_of r) ≡ 0 = omega arith in u)) in
    record {
      one_incoming = omega (arith, m.sums (λ _ x. cond (eqb x.number o.number) 1 0), before_event (with_number o.number) e f fit, counts_itself incoming o, s.accounted.numbers_unique o.number);
      one_resting = omega (arith, m.sums (λ _ x. cond (eqb x.number r.number) 1 0), before_event (with_number r.number) e f fit, counts_itself stands r, s.accounted.numbers_unique r.number);
      in_turn = All-weaker (λ a. cond (named a.order) (w a.status a.order) 0 ≡ 0) _
          (λ a k i. fair_one a (cond_named (named a.order) (w a.status a.order) (is_named a i) k)) t.accounts
          (total_zero (λ a. cond (named a.order) (w a.status a.order) 0) t.accounts zero-sum);
    }
  where
    total_zero : {X : Type 0} (g : X → ℕ) (l : List X) → total g l ≡ 0 → AllByRecursion (λ x. g x ≡ 0) l
    total_zero g [] e = tt
    total_zero g (x ∷ l) e = (omega arith, total_zero g l (omega arith))

    is_named : (a : Account) → (a.order.number ≡ o.number) ⊎ (a.order.number ≡ r.number) →
        (eqb a.order.number o.number || eqb a.order.number r.number) ≡ true
    is_named a (inl k) = or_left (eqb a.order.number o.number) (eqb a.order.number r.number) (eq-eqb a.order.number o.number k)
    is_named a (inr k) = or_right (eqb a.order.number o.number) (eqb a.order.number r.number) (eq-eqb a.order.number r.number k)

    cond_named : (b : Bool) (n : ℕ) → b ≡ true → cond b n 0 ≡ 0 → n ≡ 0
    cond_named true n k e = e
    cond_named false n k e = absurd (both_ways false refl k)

    one_zero : (b : Bool) → cond {A = ℕ} b 0 1 ≡ 0 → b ≡ true
    one_zero true e = refl
    one_zero false e = absurd (omega arith)

    and_false : (b c : Bool) → (b && c) ≡ false → b ≡ true → c ≡ false
    and_false true c e k = e
    and_false false c e k = absurd (both_ways false refl k)

    fair_one : (a : Account) → past_limit r.price a.order + count_ahead t a.order ≡ 0 →
        (within_limit a.order.side a.order.price r.price ≡ true) × Foremost t a.order
    fair_one a k =
        let n : ℕ = count_ahead t a.order in (
          one_zero (within_limit a.order.side a.order.price r.price) (omega arith),
          All-weaker (λ b. cond {A = ℕ} (stands_on a.order.side b.status b.order && ranks_ahead (order_rank b.order) (order_rank a.order)) 1 0 ≡ 0) _
              (λ b z i. and_false (stands_on a.order.side b.status b.order) (ranks_ahead (order_rank b.order) (order_rank a.order))
              (counts_nothing (stands_on a.order.side b.status b.order && ranks_ahead (order_rank b.order) (order_rank a.order)) z) i)
              t.accounts (total_zero (λ b. cond (stands_on a.order.side b.status b.order && ranks_ahead (order_rank b.order)
              (order_rank a.order)) 1 0) t.accounts (let z : n ≡ 0 = omega arith in z)),
        )
