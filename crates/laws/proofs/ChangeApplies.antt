-- A change: the changed order is as the change asks, its event may apply, and the tally agrees with it.
use Rattle.std.proofs.Common.{◌≡◌, ℕ, ◌<◌, ◌≤◌, min, true, false, cond, not, ◌||◌, eqb, ltb, Some, Option, sym, refl, ap, ◌∙◌, arith}
use Rattle.std.specs.List.{slice_get}
use Rattle.std.proofs.lemmas.Bool.{cond-true, cond-false, or_parts, not-false, eqb-true, eq-eqb, ltb-false}
use Rattle.orders.specs.declared.side.Side.{Side}
use Rattle.orders.specs.declared.order.Order.{Order}
use Rattle.orders.specs.declared.row.OrderRow.{OrderRow}
use Rattle.orders.specs.Prices.{level, same_price}
use Rattle.orders.specs.Rows.{row_of}
use Rattle.orders.specs.Lots.{showing}
use Rattle.books.specs.Model.{at}
use Rattle.matching.specs.declared.amendment.Amendment.{Amendment}
use Rattle.matching.specs.Model.{MatchState, Event, amends, requeues, apply}
use Rattle.matching.specs.Changing.{new_price, new_quantity, new_disclosed, new_open_lots, lots_traded, loses_turn, amended_order, requeued_order}
use Rattle.matching.specs.Running.{total}
use Rattle.laws.specs.Tally.{stands, incoming, Account, Tally, account, only, numbered, changed_row, costs_turn, after_change, note_change, change}
use Rattle.laws.proofs.ConsistentQueues.{InPriceRange, price_same}
use Rattle.laws.proofs.SumsOverOrders.{Measure, of_incoming, with_number}
use Rattle.laws.proofs.RowsInBounds.{QuantityAllowed, reads_back, shown_in_full_in_bounds}
use Rattle.laws.proofs.EventsApply.{ChangesInto, MayApply, measure_out, counts_itself}
use Rattle.laws.proofs.LinesAndStamps.{RoomFor, stamp_is}
use Rattle.laws.proofs.RunsToRest.{Quiescent}
use Rattle.laws.proofs.TallyAgrees.{RowMeasure, of_tally_row, as_tally_row, tally_row, on_account, on_account_if, adjusted_measure, TallyAgrees, named_is, one_adjusted, one_only}

-- what the checks of a change give (rules 13)
pub record ValidChange (c : Amendment) (o : Order) : Type 0 where
  pub above : lots_traded o < new_quantity c o
  pub allowed : QuantityAllowed (new_quantity c o) (new_disclosed c o)
  pub price_in_range : InPriceRange (new_price c o)

pub requeued_row : (stamp : ℕ) (c : Amendment) (o : Order) → ValidChange c o →
    row_of (requeued_order stamp c o) ≡ changed_row c stamp (showing (new_disclosed c o) (new_open_lots c o)) (row_of o)
requeued_row stamp c o p =
    let r : OrderRow = changed_row c stamp (showing (new_disclosed c o) (new_open_lots c o)) (row_of o) in
    reads_back r (shown_in_full_in_bounds r refl (omega (arith, p.above)) (omega (arith, p.above)) p.allowed)

-- a change that does not lose the turn
pub record KeepsTurn (c : Amendment) (o : Order) : Type 0 where
  pub price : new_price c o ≡ o.price
  pub fewer : new_quantity c o ≤ o.quantity
  pub disclosed : new_disclosed c o ≡ o.disclosed

keeps_turn : (c : Amendment) (o : Order) → loses_turn c o ≡ false → KeepsTurn c o
keeps_turn c o e =
    let a = or_parts (not (same_price (new_price c o) o.price)) (ltb o.quantity (new_quantity c o) || not (eqb (new_disclosed c o) o.disclosed)) e in
    let b = or_parts (ltb o.quantity (new_quantity c o)) (not (eqb (new_disclosed c o) o.disclosed)) a.1 in
    record {
      price = price_same (new_price c o) o.price (eqb-true (level (new_price c o)) (level o.price) (not-false (same_price (new_price c o) o.price) a.0));
      fewer = ltb-false o.quantity (new_quantity c o) b.0;
      disclosed = eqb-true (new_disclosed c o) o.disclosed (not-false (eqb (new_disclosed c o) o.disclosed) b.1);
    }

pub amended_row : (c : Amendment) (o : Order) → ValidChange c o → loses_turn c o ≡ false →
    row_of (amended_order c o) ≡ changed_row c o.turn (min o.shown (new_open_lots c o)) (row_of o)
amended_row c o p e =
    let k = keeps_turn c o e in
    let r : OrderRow = changed_row c o.turn (min o.shown (new_open_lots c o)) (row_of o) in
    reads_back r (record {
      some_shown = omega (arith, p.above);
      shown_within_open = omega arith;
      open_within_quantity = omega (arith, p.above);
      quantity_within_most = p.allowed.few;
      whole_shown = λ z. omega (arith, p.above, k.fewer, o.whole_shown (sym k.disclosed ∙ z));
      part_within_disclosed = λ z. omega (arith, k.disclosed, o.part_within_disclosed (omega (arith, k.disclosed, z)));
      hidden_within_parts = λ z. omega (arith, p.above, k.fewer, k.disclosed, o.hidden_within_parts (omega (arith, k.disclosed, z)));
    })

-- the lots already traded stay
changes_requeued : (stamp : ℕ) (c : Amendment) (o : Order) → ValidChange c o → ChangesInto o (requeued_order stamp c o)
changes_requeued stamp c o p =
    let e = requeued_row stamp c o p in
    let q : (requeued_order stamp c o).quantity ≡ new_quantity c o = ap (λ (r : OrderRow). r.quantity) e in
    let l : (requeued_order stamp c o).open_lots ≡ new_open_lots c o = ap (λ (r : OrderRow). r.open_lots) e in
    record { number = refl; side = refl; account = omega (arith, p.above); price_in_range = p.price_in_range }

changes_amended : (c : Amendment) (o : Order) → ValidChange c o → loses_turn c o ≡ false → ChangesInto o (amended_order c o)
changes_amended c o p k =
    let e = amended_row c o p k in
    let q : (amended_order c o).quantity ≡ new_quantity c o = ap (λ (r : OrderRow). r.quantity) e in
    let l : (amended_order c o).open_lots ≡ new_open_lots c o = ap (λ (r : OrderRow). r.open_lots) e in
    record { number = refl; side = refl; account = omega (arith, p.above); price_in_range = p.price_in_range }

pub may_apply_requeues : (c : Amendment) (s : Side) (i : ℕ) (o : Order) (f : MatchState) → slice_get (at s f.queues.stands) i ≡ Some o → ValidChange c o → Quiescent f →
    MayApply (requeues s i (requeued_order f.session.next_stamp c o)) f
may_apply_requeues c s i o f e p k =
    let z = requeued_row f.session.next_stamp c o p in (
      record { idle = k.idle; was = o; there = e; changes = changes_requeued f.session.next_stamp c o p },
      ap (λ (r : OrderRow). r.shown) z ∙ sym (ap (λ (r : OrderRow). showing r.disclosed r.open_lots) z),
      refl,
    )

pub may_apply_amends : (c : Amendment) (i : ℕ) (o : Order) (f : MatchState) → slice_get (at o.side f.queues.stands) i ≡ Some o → ValidChange c o → loses_turn c o ≡ false →
    Quiescent f → MayApply (amends i (amended_order c o)) f
may_apply_amends c i o f e p l k =
    (record { idle = k.idle; was = o; there = e; changes = changes_amended c o p l }, record { side = refl; price = (keeps_turn c o l).price; turn = refl; number = refl })

module _ (c : Amendment) (i : ℕ) (o : Order) (f : MatchState) (p : ValidChange c o) (k : Quiescent f) (t : Tally) (m : TallyAgrees t f) where
  -- the turns that the tally counts for a change
  turns_noted : (ev : Event) → MayApply ev f → ((g : Measure) → measure_out ev f g ≡ g stands o) →
      total (λ a. cond (eqb a.order.number o.number) (cond (costs_turn c a.order) 1 0) 0) t.accounts ≡ cond (loses_turn c o) 1 0
  turns_noted ev fit is =
      let w : RowMeasure = λ q x. cond (costs_turn c x) 1 0 in
      omega (
        arith,
        m.sums (λ q x. cond (eqb x.number o.number) (w q x) 0),
        one_only ev f fit k.consistent o.number (omega (arith, is (with_number o.number), counts_itself stands o)) t m (of_tally_row w),
        is (λ q x. cond (eqb x.number o.number) (of_tally_row w q x) 0),
        cond-true (eqb o.number o.number) (w stands (row_of o)) 0 (eq-eqb o.number o.number refl),
      )

  pub tally_agrees_amends : (e : slice_get (at o.side f.queues.stands) i ≡ Some o) (l : loses_turn c o ≡ false) → RoomFor (amends i (amended_order c o)) f →
      TallyAgrees (note_change (change c) o.number t) (apply (amends i (amended_order c o)) f)
  tally_agrees_amends e l room =
      let o' : Order = amended_order c o in
      let ev : Event = amends i o' in
      let fit = may_apply_amends c i o f e p l k in
      let is : (g : Measure) → measure_out ev f g ≡ g stands o = λ g. ap (of_incoming (g stands)) e in
      let one : 1 ≤ measure_out ev f (with_number o.number) = omega (arith, is (with_number o.number), counts_itself stands o) in
      let h : Account → Option Account = λ a. Some (after_change c t.turn a) in
      record {
        sums = one_adjusted ev f fit k.consistent o.number one t m h
            (λ g. is (adjusted_measure (λ a. only (numbered o.number a) (h a) a) g)
            ∙ (ap (on_account_if g) (named_is (h (account stands (tally_row stands o))) stands o)
            ∙ (ap (on_account g) (cond-false (loses_turn c o) (account incoming (changed_row c t.turn 0 (row_of o)))
            (account stands (changed_row c o.turn (min o.shown (new_open_lots c o)) (row_of o))) l)
            ∙ sym (ap (g stands) (amended_row c o p l)))));
        turns = omega (arith, m.turns, stamp_is ev f room, turns_noted ev fit is, cond-false {A = ℕ} (loses_turn c o) 1 0 l);
      }

  pub tally_agrees_requeues : (s : Side) (e : slice_get (at s f.queues.stands) i ≡ Some o) (l : loses_turn c o ≡ true) →
      RoomFor (requeues s i (requeued_order f.session.next_stamp c o)) f →
      TallyAgrees (note_change (change c) o.number t) (apply (requeues s i (requeued_order f.session.next_stamp c o)) f)
  tally_agrees_requeues s e l room =
      let o' : Order = requeued_order f.session.next_stamp c o in
      let ev : Event = requeues s i o' in
      let fit = may_apply_requeues c s i o f e p k in
      let is : (g : Measure) → measure_out ev f g ≡ g stands o = λ g. ap (of_incoming (g stands)) e in
      let one : 1 ≤ measure_out ev f (with_number o.number) = omega (arith, is (with_number o.number), counts_itself stands o) in
      let h : Account → Option Account = λ a. Some (after_change c t.turn a) in
      record {
        sums = one_adjusted ev f fit k.consistent o.number one t m h
            (λ g. is (adjusted_measure (λ a. only (numbered o.number a) (h a) a) g)
            ∙ (ap (on_account_if g) (named_is (h (account stands (tally_row stands o))) stands o)
            ∙ (ap (on_account g) (cond-true (loses_turn c o) (account incoming (changed_row c t.turn 0 (row_of o)))
            (account stands (changed_row c o.turn (min o.shown (new_open_lots c o)) (row_of o))) l)
            ∙ (ap (λ n. g incoming (changed_row c n 0 (row_of o))) m.turns
            ∙ sym (ap (λ r. g incoming (as_tally_row incoming r)) (requeued_row f.session.next_stamp c o p))))));
        turns = omega (arith, m.turns, stamp_is ev f room, turns_noted ev fit is, cond-true {A = ℕ} (loses_turn c o) 1 0 l);
      }
