-- The orders that stand in the tally; its first price of a side is the first price of the queue.
use Rattle.std.proofs.Common.{◌≡◌, ℕ, ◌+◌, ◌≤◌, Bool, true, false, cond, ◌&&◌, List, [], ◌∷◌, Some, None, Option, sym, refl, ap, ◌∙◌, subst, ⊎_elim, arith}
use Rattle.std.specs.List.{AllByRecursion}
use Rattle.std.proofs.lemmas.Bool.{cond_both, cond-true, cond-false, both_ways, eq-eqb, ne_eqb, cases_eq, le-ltb}
use Rattle.std.proofs.lemmas.Bool.Decides.{nat_tests}
use Rattle.orders.specs.declared.side.Side.{Side}
use Rattle.orders.specs.declared.side.Side.TheVariants.{Buy, Sell}
use Rattle.orders.specs.declared.price.Price.{Price}
use Rattle.orders.specs.declared.order.Order.{Order}
use Rattle.orders.specs.declared.row.OrderRow.{OrderRow}
use Rattle.orders.specs.Prices.{level, same_price}
use Rattle.orders.specs.Ranks.{ranks_ahead, order_key}
use Rattle.orders.specs.Rows.{row_of}
use Rattle.orders.specs.Sides.{same_side}
use Rattle.books.specs.Model.{at, rank_of}
use Rattle.matching.specs.Model.{MatchState}
use Rattle.matching.specs.Running.{total}
use Rattle.matching.specs.Reach.{better}
use Rattle.laws.specs.Tally.{stands, incoming, Account, Tally, stands_on, better_of, first_price}
use Rattle.laws.proofs.SortedLists.{Sorted}
use Rattle.laws.proofs.ConsistentQueues.{ConsistentQueues, InPriceRange, OnSide, price_same, ranks_lower}
use Rattle.laws.proofs.SumsOverOrders.{Measure, of_incoming, of_stop, everywhere, total_none}
use Rattle.laws.proofs.TallyAgrees.{RowMeasure, of_tally_row, TallyAgrees, counts_nothing}

-- where no order of a queue passes a test, no standing account of that side does

one_side : (z s : Side) (b : Bool) → (s ≡ z → b ≡ false) → cond {A = ℕ} (same_side s z && b) 1 0 ≡ 0
one_side Buy Buy b h = rw (h refl) refl
one_side Buy Sell b h = refl
one_side Sell Buy b h = refl
one_side Sell Sell b h = rw (h refl) refl

none_in_queue : (z s : Side) (q : OrderRow → Bool) (l : List Order) → AllByRecursion (OnSide s) l → (s ≡ z → AllByRecursion (λ x. q (row_of x) ≡ false) l) →
    total (λ (x : Order). cond (same_side x.side z && q (row_of x)) 1 0) l ≡ 0
none_in_queue z s q [] d h = refl
none_in_queue z s q (x ∷ l) d h =
    let a : cond {A = ℕ} (same_side x.side z && q (row_of x)) 1 0 ≡ 0 = subst (λ (u : Side). cond {A = ℕ} (same_side u z && q (row_of x)) 1 0 ≡ 0)
    (sym d.0.0) (one_side z s (q (row_of x)) (λ e. (h e).0)) in
    omega (arith, none_in_queue z s q l d.1 (λ e. (h e).1))

pub none_stands : (z : Side) (q : OrderRow → Bool) (f : MatchState) → ConsistentQueues f.queues → AllByRecursion (λ x. q (row_of x) ≡ false) (at z f.queues.stands) →
    everywhere (of_tally_row (λ p r. cond (stands_on z p r && q r) 1 0)) f ≡ 0
none_stands z q f g h =
    let k : RowMeasure = λ p r. cond (stands_on z p r && q r) 1 0 in
    let a : total (of_tally_row k stands) f.queues.stands.buy ≡ 0 = none_in_queue z Buy q f.queues.stands.buy (g.on_side Buy)
    (λ e. subst (λ (s : Side). AllByRecursion (λ x. q (row_of x) ≡ false) (at s f.queues.stands)) (sym e) h) in
    let b : total (of_tally_row k stands) f.queues.stands.sell ≡ 0 = none_in_queue z Sell q f.queues.stands.sell (g.on_side Sell)
    (λ e. subst (λ (s : Side). AllByRecursion (λ x. q (row_of x) ≡ false) (at s f.queues.stands)) (sym e) h) in
    let c : total (of_stop (of_tally_row k)) f.queues.waits.buy ≡ 0 = total_none f.queues.waits.buy in
    let d : total (of_stop (of_tally_row k)) f.queues.waits.sell ≡ 0 = total_none f.queues.waits.sell in
    let e : of_incoming (of_tally_row k incoming) f.incoming ≡ 0 = at_incoming f.incoming in
    omega arith
  where
    at_incoming : (m : Option Order) → of_incoming (λ _. 0) m ≡ 0
    at_incoming None = refl
    at_incoming (Some o) = refl

-- a standing order counts
some_stands : (g : Measure) (z : Side) (r : Order) (rest : List Order) (f : MatchState) → at z f.queues.stands ≡ r ∷ rest → g stands r ≤ everywhere g f
some_stands g Buy r rest f e = let a : total (g stands) f.queues.stands.buy ≡ g stands r + total (g stands) rest = ap (total (g stands)) e in omega arith
some_stands g Sell r rest f e = let a : total (g stands) f.queues.stands.sell ≡ g stands r + total (g stands) rest = ap (total (g stands)) e in omega arith

-- the first price

pub better_itself : (s : Side) (p : Price) → better s p p ≡ false
better_itself Buy p = le-ltb (level p) (level p) (omega arith)
better_itself Sell p = le-ltb (level p) (level p) (omega arith)

-- how many accounts that stand on a side pass a test of their price
abbrev count_if : Side → (Price → Bool) → List Account → ℕ
count_if s q l = total (λ a. cond (stands_on s a.status a.order && q a.order.price) 1 0) l

first_none : (s : Side) (l : List Account) → count_if s (λ _. true) l ≡ 0 → first_price s l ≡ None
first_none s [] e = refl
first_none s (a ∷ l) e = cond-false (stands_on s a.status a.order) (Some (better_of s a.order.price (first_price s l))) (first_price s l)
    (and_true (stands_on s a.status a.order) (counts_nothing (stands_on s a.status a.order && true) (omega arith))) ∙ first_none s l (omega arith)
  where
    and_true : (b : Bool) → (b && true) ≡ false → b ≡ false
    and_true false e = refl
    and_true true e = e

-- no price is better than this one
abbrev NoBetter : Side → Price → Option Price → Type 0
NoBetter s p None = Unit {0}
NoBetter s p (Some q) = better s q p ≡ false

first_bound : (s : Side) (p : Price) (l : List Account) → count_if s (λ q. better s q p) l ≡ 0 → NoBetter s p (first_price s l)
first_bound s p [] e = tt
first_bound s p (a ∷ l) e =
    let ih = first_bound s p l (omega arith) in
    let z = counts_nothing (stands_on s a.status a.order && better s a.order.price p) (omega arith) in
    cond_both (stands_on s a.status a.order) (Some (better_of s a.order.price (first_price s l))) (first_price s l) (NoBetter s p)
    (λ k. go (first_price s l) ih (and_left_true (stands_on s a.status a.order) (better s a.order.price p) k z)) (λ _. ih)
  where
    and_left_true : (b c : Bool) → b ≡ true → (b && c) ≡ false → c ≡ false
    and_left_true true c k z = z
    and_left_true false c k z = absurd (both_ways false refl k)

    go : (m : Option Price) → NoBetter s p m → better s a.order.price p ≡ false → NoBetter s p (Some (better_of s a.order.price m))
    go None h k = k
    go (Some q) h k = cond_both (better s q a.order.price) q a.order.price (λ n. better s n p ≡ false) (λ _. h) (λ _. k)

better_apart : (s : Side) (a p : Price) → (level a ≡ level p → ⊥) → better s a p ≡ false → better s p a ≡ true
better_apart Buy a p h k = grind (arith, nat_tests)
better_apart Sell a p h k = grind (arith, nat_tests)

first_is : (s : Side) (p : Price) (l : List Account) → count_if s (λ q. better s q p) l ≡ 0 → 1 ≤ count_if s (λ q. same_price q p) l → first_price s l ≡ Some p
first_is s p [] e h = absurd (omega arith)
first_is s p (a ∷ l) e h = go (stands_on s a.status a.order) refl (counts_nothing (stands_on s a.status a.order && better s a.order.price p)
    (omega arith)) (first_is s p l (omega arith)) (first_bound s p l (omega arith)) h
  where
    pr : Price
    pr = a.order.price

    first : (m : Option Price) → NoBetter s p m → better_of s p m ≡ p
    first None k = refl
    first (Some q) k = cond-false (better s q p) q p k

    go : (b : Bool) → stands_on s a.status a.order ≡ b → (b && better s a.order.price p) ≡ false →
        (1 ≤ count_if s (λ q. same_price q p) l → first_price s l ≡ Some p) → NoBetter s p (first_price s l) →
        1 ≤ cond (stands_on s a.status a.order && same_price a.order.price p) 1 0 + count_if s (λ q. same_price q p) l →
        cond b (Some (better_of s a.order.price (first_price s l))) (first_price s l) ≡ Some p
    go false k z ih bound n = ih (let n' : 1 ≤ 0 + count_if s (λ q. same_price q p) l = subst
        (λ b. 1 ≤ cond (b && same_price a.order.price p) 1 0 + count_if s (λ q. same_price q p) l) k n in omega arith)
    go true k z ih bound n = ⊎_elim
        (λ (q : level a.order.price ≡ level p). ap (λ u. Some (better_of s u (first_price s l))) (price_same a.order.price p q) ∙ ap Some (first (first_price s l) bound))
        (λ (q : level a.order.price ≡ level p → ⊥).
        let i = ih (let u : cond {A = ℕ} (same_price a.order.price p) 1 0 ≡ 0 = cond-false (same_price a.order.price p) 1 0 (ne_eqb (level a.order.price) (level p) q) in
        let n' : 1 ≤ cond (same_price a.order.price p) 1 0 + count_if s (λ q. same_price q p) l = subst
        (λ b. 1 ≤ cond (b && same_price a.order.price p) 1 0 + count_if s (λ q. same_price q p) l) k n in omega arith) in
        ap (λ m. Some (better_of s a.order.price m)) i ∙ ap Some (cond-true (better s p a.order.price) p a.order.price (better_apart s a.order.price p q z)))
        (cases_eq (level a.order.price) (level p))

-- no order of a queue is priced better than its first

not_better_key : (s : Side) (p q : Price) → InPriceRange p → InPriceRange q → order_key s p ≤ order_key s q → better s q p ≡ false
not_better_key Buy p q lp lq h = le-ltb (level p) (level q) (omega arith)
not_better_key Sell p q lp lq h = le-ltb (level q) (level p) (omega arith)

pub none_better : (s : Side) (r : Order) (l : List Order) → OnSide s r → AllByRecursion (OnSide s) l → AllByRecursion (λ y. ranks_ahead (rank_of y) (rank_of r) ≡ false) l →
    AllByRecursion (λ (x : Order). better s x.price r.price ≡ false) l
none_better s r [] dr d h = tt
none_better s r (x ∷ l) dr d h =
    let k : order_key r.side r.price ≤ order_key x.side x.price = ranks_lower (rank_of r) (rank_of x) h.0 in (
      not_better_key s r.price x.price dr.1 d.0.1
          (subst (λ (z : Side). order_key s r.price ≤ order_key z x.price) d.0.0 (subst (λ (z : Side). order_key z r.price ≤ order_key x.side x.price) dr.0 k)),
      none_better s r l dr d.1 h.1,
    )

-- the price of the first order
abbrev pub price_of_first : List Order → Option Price
price_of_first [] = None
price_of_first (r ∷ l) = Some r.price

side_itself : (z : Side) → same_side z z ≡ true
side_itself Buy = refl
side_itself Sell = refl

pub first_price_is : (s : Side) (f : MatchState) (t : Tally) → ConsistentQueues f.queues → TallyAgrees t f → first_price s t.accounts ≡ price_of_first (at s f.queues.stands)
first_price_is s f t g m = go (at s f.queues.stands) refl
  where
    go : (l : List Order) → at s f.queues.stands ≡ l → first_price s t.accounts ≡ price_of_first l
    go [] e = first_none s t.accounts (m.sums (λ p r. cond (stands_on s p r && true) 1 0) ∙ none_stands s (λ _. true) f g (subst (AllByRecursion (λ (x : Order). true ≡ false)) (sym e) tt))
    go (r ∷ rest) e =
        let p : Price = r.price in
        let d = subst (AllByRecursion (OnSide s)) e (g.on_side s) in
        let o = subst (Sorted rank_of) e (g.sorted s) in
        let w : RowMeasure = λ q x. cond (stands_on s q x && same_price x.price p) 1 0 in
        let one : of_tally_row w stands r ≡ 1 = rw (d.0.0, side_itself s, eq-eqb (level p) (level p) refl) refl in
        first_is s p t.accounts
        (m.sums (λ q x. cond (stands_on s q x && better s x.price p) 1 0) ∙ none_stands s (λ x. better s x.price p) f g
        (subst (AllByRecursion (λ (x : Order). better s x.price p ≡ false)) (sym e) (better_itself s p, none_better s r rest d.0 d.1 o.0)))
        (omega (arith, m.sums w, some_stands (of_tally_row w) s r rest f e))
