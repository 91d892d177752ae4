-- The tally agrees with the match state, event by event: every sum over its accounts is that over the orders of the match state.
use Rattle.std.proofs.Common.{◌≡◌, ℕ, ◌+◌, ◌-◌, ◌≤◌, Bool, true, false, cond, ◌||◌, eqb, List, [], ◌∷◌, Some, None, Option, sym, refl, ap, ◌∙◌, subst, arith}
use Rattle.std.proofs.lemmas.Bool.{cond-true, cond-false, eq-eqb, ne_eqb, or_from, or_left, or_right}
use Rattle.orders.specs.declared.side.Side.{Side}
use Rattle.orders.specs.declared.order.Order.{Order}
use Rattle.orders.specs.declared.order.Stop.{Stop}
use Rattle.orders.specs.declared.row.OrderRow.{OrderRow}
use Rattle.orders.specs.Rows.{row_of}
use Rattle.books.specs.declared.queue.Queue.{Queue}
use Rattle.books.specs.declared.queue.Record.{Record}
use Rattle.books.specs.Model.{Queues, order_of_record}
use Rattle.tapes.specs.declared.cause.Cause.{Cause}
use Rattle.matching.specs.Model.{MatchState, Event, cancels_incoming, trades, rests, triggers, cancels_resting, outcome, incoming_left, trade_lots, apply}
use Rattle.matching.specs.Running.{total}
use Rattle.matching.proofs.OutcomeCases.{outcome_cases, incoming_left_cases}
use Rattle.laws.specs.Tally.{Status, stands, waits, incoming, Account, Tally, account, account_if, adjust, only, numbered, row_with, lots_off, shown_ran_out, refilled_if, take_off, rested, incoming_rested, triggered_account, note_trigger, note_trade, note_cancel}
use Rattle.laws.proofs.SumsOverOrders.{Measure, of_incoming, over, everywhere, over_plus, over_agree, with_number, over_nothing}
use Rattle.laws.proofs.RowsInBounds.{ShowsInFull, refilled_row, reduced_row}
use Rattle.laws.proofs.EventsApply.{MayApply, of_outcome, measure_out, measure_in, untouched_queues, measure_untouched, before_event, after_event, counts_itself, IncomingReady, status}
use Rattle.laws.specs.WithinRoom.{outcome_stamps}
use Rattle.laws.proofs.LinesAndStamps.{RoomFor, stamp_is}
use Rattle.laws.proofs.AccountsBalance.{untouched_unnumbered}
use Rattle.laws.proofs.RunsToRest.{Consistent}

-- an order as the tally has it: only an order that stands shows lots
abbrev pub tally_shown : Status → ℕ → ℕ
tally_shown stands n = n
tally_shown _ n = 0

abbrev pub as_tally_row : Status → OrderRow → OrderRow
as_tally_row p r = row_with r.turn r.open_lots (tally_shown p r.shown) r

abbrev pub tally_row : Status → Order → OrderRow
tally_row p o = as_tally_row p (row_of o)

-- a number for each account, and the measure of orders that it makes
abbrev pub RowMeasure : Type 0
RowMeasure = Status → OrderRow → ℕ

abbrev pub on_account : RowMeasure → Account → ℕ
on_account g a = g a.status a.order

abbrev pub of_tally_row : RowMeasure → Measure
of_tally_row g p o = g p (tally_row p o)

abbrev pub on_account_if : RowMeasure → Option Account → ℕ
on_account_if g None = 0
on_account_if g (Some a) = on_account g a

-- the tally has what the match state has
pub record TallyAgrees (t : Tally) (f : MatchState) : Type 0 where
  pub sums : (g : RowMeasure) → total (on_account g) t.accounts ≡ everywhere (of_tally_row g) f
  pub turns : t.turn ≡ f.session.next_stamp

pub total_adjust : (g : RowMeasure) (h : Account → Option Account) (l : List Account) → total (on_account g) (adjust h l) ≡ total (λ a. on_account_if g (h a)) l
total_adjust g h [] = refl
total_adjust g h (a ∷ l) = go (h a) (total_adjust g h l)
  where
    go : (m : Option Account) → total (on_account g) (adjust h l) ≡ total (λ a. on_account_if g (h a)) l →
        total (on_account g) (account_if m (adjust h l)) ≡ on_account_if g m + total (λ a. on_account_if g (h a)) l
    go None e = omega arith
    go (Some b) e = omega arith

-- the measure of orders after the accounts are adjusted
abbrev pub adjusted_measure : (Account → Option Account) → RowMeasure → Measure
adjusted_measure h g p o = on_account_if g (h (account p (tally_row p o)))

-- an event on the match state is a change of the accounts of the orders that it takes out
sums_adjusted : (w : Measure) (h : Account → Option Account) (e : Event) (f : MatchState) (l : List Account) → MayApply e f → Consistent f → measure_untouched w e f ≡ 0 →
    ((p : Status) (o : Order) → w p o ≡ 0 → h (account p (tally_row p o)) ≡ Some (account p (tally_row p o))) →
    ((g : RowMeasure) → measure_out e f (adjusted_measure h g) ≡ measure_in e f (of_tally_row g)) → ((g : RowMeasure) → total (on_account g) l ≡ everywhere (of_tally_row g) f) →
    (g : RowMeasure) → total (on_account g) (adjust h l) ≡ everywhere (of_tally_row g) (apply e f)
sums_adjusted w h e f l fit s none same goers sums g =
    omega (
      arith,
      total_adjust g h l,
      sums (λ p r. on_account_if g (h (account p r))),
      before_event (adjusted_measure h g) e f fit,
      goers g,
      after_event (of_tally_row g) e f fit s.queues s.accounted.numbers_unique,
      over_agree (untouched_queues e f) None w (adjusted_measure h g) (of_tally_row g) (λ p o z. ap (on_account_if g) (same p o z)) none,
    )

pub counts_nothing : (b : Bool) → cond {A = ℕ} b 1 0 ≡ 0 → b ≡ false
counts_nothing false e = refl
counts_nothing true e = absurd (omega arith)

-- an account of another number stays, and one of this number gives way
pub unnamed_stays : (n : ℕ) (m : Option Account) (p : Status) (o : Order) → with_number n p o ≡ 0 →
    only (numbered n (account p (tally_row p o))) m (account p (tally_row p o)) ≡ Some (account p (tally_row p o))
unnamed_stays n m p o h = cond-false (eqb o.number n) m (Some (account p (tally_row p o))) (counts_nothing (eqb o.number n) h)

pub named_is : (m : Option Account) (p : Status) (o : Order) → only (numbered o.number (account p (tally_row p o))) m (account p (tally_row p o)) ≡ m
named_is m p o = cond-true (eqb o.number o.number) m (Some (account p (tally_row p o))) (eq-eqb o.number o.number refl)

-- lots come off the incoming order, and off the resting one

sum_incoming_left : (g : RowMeasure) (lots turn : ℕ) (o : Order) → lots ≤ o.open_lots →
    on_account_if g (take_off lots turn (account incoming (tally_row incoming o))) ≡ of_incoming (of_tally_row g incoming) (incoming_left lots o)
sum_incoming_left g lots turn o h = incoming_left_cases lots o (λ m. on_account_if g (take_off lots turn (account incoming (tally_row incoming o))) ≡ of_incoming (of_tally_row g incoming) m) h
    (λ e. ap (on_account_if g) (cond-true (eqb (o.open_lots - lots) 0) None (Some (account incoming (lots_off lots (tally_row incoming o)))) (eq-eqb (o.open_lots - lots) 0 (omega arith))))
    (λ more. ap (on_account_if g) (cond-false (eqb (o.open_lots - lots) 0) None (Some (account incoming (lots_off lots (tally_row incoming o)))) (ne_eqb (o.open_lots - lots) 0 (λ z. omega arith)))
    ∙ (ap (λ n. g incoming (row_with o.turn (o.open_lots - lots) n (row_of o))) (let z : 0 - lots ≡ 0 = omega arith in z)
    ∙ sym (ap (λ r. g incoming (as_tally_row incoming r)) (refilled_row o.turn lots o more))))

sum_outcome : (g : RowMeasure) (lots turn : ℕ) (r : Order) → lots ≤ r.shown →
    on_account_if g (take_off lots turn (account stands (tally_row stands r))) ≡ of_outcome (of_tally_row g stands) (outcome lots r) lots turn r
sum_outcome g lots turn r h =
    let x : OrderRow = lots_off lots (row_of r) in
    let left : Option Account = Some (account stands (refilled_if (shown_ran_out stands x) turn x)) in
    outcome_cases lots r (λ k. on_account_if g (take_off lots turn (account stands (tally_row stands r))) ≡ of_outcome (of_tally_row g stands) k lots turn r) h
    (λ e. ap (on_account_if g) (cond-true (eqb (r.open_lots - lots) 0) None left (eq-eqb (r.open_lots - lots) 0 (omega arith))))
    (λ e more. let n : eqb (r.open_lots - lots) 0 ≡ false = ne_eqb (r.open_lots - lots) 0 (λ y. omega arith) in
    let b : shown_ran_out stands x ≡ true = rw (n, eq-eqb (r.shown - lots) 0 (omega arith)) refl in
    ap (on_account_if g) (cond-false (eqb (r.open_lots - lots) 0) None left n)
    ∙ (ap (λ b. g stands (refilled_if b turn x)) b ∙ sym (ap (g stands) (refilled_row turn lots r more))))
    (λ less. let n : eqb (r.open_lots - lots) 0 ≡ false = ne_eqb (r.open_lots - lots) 0 (λ y. omega arith) in
    let b : shown_ran_out stands x ≡ false = rw (n, ne_eqb (r.shown - lots) 0 (λ v. omega arith)) refl in
    ap (on_account_if g) (cond-false (eqb (r.open_lots - lots) 0) None left n)
    ∙ (ap (λ b. g stands (refilled_if b turn x)) b ∙ sym (ap (g stands) (reduced_row lots r less))))

turns_drawn_outcome : (lots : ℕ) (r : Order) → lots ≤ r.shown → cond (shown_ran_out stands (lots_off lots (row_of r))) 1 0 ≡ outcome_stamps (outcome lots r)
turns_drawn_outcome lots r h = outcome_cases lots r (λ k. cond (shown_ran_out stands (lots_off lots (row_of r))) 1 0 ≡ outcome_stamps k) h
    (λ e. rw (eq-eqb (r.open_lots - lots) 0 (omega arith)) refl)
    (λ e more. rw (ne_eqb (r.open_lots - lots) 0 (λ y. omega arith), eq-eqb (r.shown - lots) 0 (omega arith)) refl)
    (λ less. rw (ne_eqb (r.open_lots - lots) 0 (λ y. omega arith), ne_eqb (r.shown - lots) 0 (λ v. omega arith)) refl)

-- a trade: its two orders, and no other

module _ (o r : Order) (f : MatchState) (fit : MayApply (trades o r) f) (s : Consistent f) where
  -- 1 for each of the two orders
  abbrev pub the_traders : Measure
  the_traders p x = with_number o.number p x + with_number r.number p x

  no_other_trader : measure_untouched the_traders (trades o r) f ≡ 0
  no_other_trader =
      let e : Event = trades o r in
      let a = untouched_unnumbered e f fit s.accounted o.number (omega (arith, counts_itself incoming o)) in
      let b = untouched_unnumbered e f fit s.accounted r.number (omega (arith, counts_itself stands r)) in
      omega (arith, over_plus (untouched_queues e f) None (with_number o.number) (with_number r.number))

  incoming_named : (eqb o.number o.number || eqb o.number r.number) ≡ true
  incoming_named = or_left (eqb o.number o.number) (eqb o.number r.number) (eq-eqb o.number o.number refl)

  resting_named : (eqb r.number o.number || eqb r.number r.number) ≡ true
  resting_named = or_right (eqb r.number o.number) (eqb r.number r.number) (eq-eqb r.number r.number refl)

  others_unnamed : (p : Status) (x : Order) → the_traders p x ≡ 0 → (eqb x.number o.number || eqb x.number r.number) ≡ false
  others_unnamed p x z = or_from (eqb x.number o.number) (eqb x.number r.number) (counts_nothing (eqb x.number o.number) (omega arith)) (counts_nothing (eqb x.number r.number) (omega arith))

  -- a sum that counts only the two
  pub traders_only : (w : Measure) → everywhere (λ p x. cond (eqb x.number o.number || eqb x.number r.number) (w p x) 0) f ≡ w incoming o + w stands r
  traders_only w =
      let e : Event = trades o r in
      let g : Measure = λ p x. cond (eqb x.number o.number || eqb x.number r.number) (w p x) 0 in
      let q : Queues = untouched_queues e f in
      omega (
        arith,
        over_nothing q,
        before_event g e f fit,
        cond-true (eqb o.number o.number || eqb o.number r.number) (w incoming o) 0 incoming_named,
        cond-true (eqb r.number o.number || eqb r.number r.number) (w stands r) 0 resting_named,
        over_agree q None the_traders g (λ _ _. 0) (λ p x k. cond-false (eqb x.number o.number || eqb x.number r.number) (w p x) 0 (others_unnamed p x k)) no_other_trader,
      )

  pub tally_agrees_trades : (t : Tally) → RoomFor (trades o r) f → TallyAgrees t f → TallyAgrees (note_trade o.number r.number (trade_lots o r) t) (apply (trades o r) f)
  tally_agrees_trades t room m =
      let e : Event = trades o r in
      let lots : ℕ = trade_lots o r in
      let c : ℕ = f.session.next_stamp in
      let named : Account → Bool = λ a. numbered o.number a || numbered r.number a in
      let h : Account → Option Account = λ a. only (named a) (take_off lots c a) a in
      record {
        sums = subst (λ c. (g : RowMeasure) → total (on_account g) (adjust (λ a. only (named a) (take_off lots c a) a) t.accounts) ≡ everywhere (of_tally_row g) (apply e f)) (sym m.turns)
            (sums_adjusted the_traders h e f t.accounts fit s no_other_trader
            (λ p x k. cond-false (named (account p (tally_row p x))) (take_off lots c (account p (tally_row p x))) (Some (account p (tally_row p x))) (others_unnamed p x k))
            (λ g. omega (
              arith,
              ap (on_account_if g) (cond-true (named (account incoming (tally_row incoming o))) (take_off lots c (account incoming (tally_row incoming o))) (Some (account incoming (tally_row incoming o))) incoming_named),
              sum_incoming_left g lots c o (omega arith),
              ap (on_account_if g) (cond-true (named (account stands (tally_row stands r))) (take_off lots c (account stands (tally_row stands r))) (Some (account stands (tally_row stands r))) resting_named),
              sum_outcome g lots c r (omega arith),
            ))
            m.sums);
        turns = omega (
          arith,
          m.turns,
          stamp_is e f room,
          m.sums (λ p x. cond (eqb x.number o.number || eqb x.number r.number)
              (cond (shown_ran_out p (lots_off lots x)) 1 0) 0),
          traders_only (λ p x. cond (shown_ran_out p (lots_off lots (tally_row p x))) 1 0),
          turns_drawn_outcome lots r (omega arith),
        );
      }

-- an account leaves when all of its lots come off
all_lots_off : (turn : ℕ) (p : Status) (o : Order) → take_off o.open_lots turn (account p (tally_row p o)) ≡ None
all_lots_off turn p o = cond-true (eqb (o.open_lots - o.open_lots) 0) None (Some (account p
    (refilled_if (shown_ran_out p (lots_off o.open_lots (tally_row p o))) turn (lots_off o.open_lots (tally_row p o))))) (eq-eqb (o.open_lots - o.open_lots) 0 (omega arith))

leaves_the_tally : (g : RowMeasure) (turn : ℕ) (p : Status) (o : Order) →
    on_account_if g (only (numbered o.number (account p (tally_row p o))) (take_off o.open_lots turn (account p (tally_row p o))) (account p (tally_row p o))) ≡ 0
leaves_the_tally g turn p o = ap (on_account_if g) (named_is (take_off o.open_lots turn (account p (tally_row p o))) p o ∙ all_lots_off turn p o)

-- an event that takes out one order
module _ (e : Event) (f : MatchState) (fit : MayApply e f) (s : Consistent f) (n : ℕ) (one : 1 ≤ measure_out e f (with_number n)) (t : Tally) (m : TallyAgrees t f) where
  pub one_adjusted : (h : Account → Option Account) → ((g : RowMeasure) → measure_out e f (adjusted_measure (λ a. only (numbered n a) (h a) a) g) ≡ measure_in e f (of_tally_row g)) →
      (g : RowMeasure) → total (on_account g) (adjust (λ a. only (numbered n a) (h a) a) t.accounts) ≡ everywhere (of_tally_row g) (apply e f)
  one_adjusted h goers = sums_adjusted (with_number n) (λ a. only (numbered n a) (h a) a) e f t.accounts fit s (untouched_unnumbered e f fit s.accounted n one)
      (λ p o z. unnamed_stays n (h (account p (tally_row p o))) p o z) goers m.sums

  -- a sum that counts only this order
  pub one_only : (w : Measure) → everywhere (λ p x. cond (eqb x.number n) (w p x) 0) f ≡ measure_out e f (λ p x. cond (eqb x.number n) (w p x) 0)
  one_only w =
      let g : Measure = λ p x. cond (eqb x.number n) (w p x) 0 in
      let q : Queues = untouched_queues e f in
      omega (
        arith,
        over_nothing q,
        before_event g e f fit,
        over_agree q None (with_number n) g (λ _ _. 0)
            (λ p x k. cond-false (eqb x.number n) (w p x) 0 (counts_nothing (eqb x.number n) k)) (untouched_unnumbered e f fit s.accounted n one),
      )

pub tally_agrees_cancels_incoming : (c : Cause) (o : Order) (f : MatchState) → MayApply (cancels_incoming c o) f → Consistent f → (t : Tally) → TallyAgrees t f →
    TallyAgrees (note_cancel o.number o.open_lots t) (apply (cancels_incoming c o) f)
tally_agrees_cancels_incoming c o f fit s t m = record {
  sums = one_adjusted (cancels_incoming c o) f fit s o.number (omega (arith, counts_itself incoming o)) t m (take_off o.open_lots t.turn) (λ g. leaves_the_tally g t.turn incoming o);
  turns = m.turns;
}

pub tally_agrees_cancels_resting : (c : Cause) (n : Queue) (i : ℕ) (r : Record) (f : MatchState) → MayApply (cancels_resting c n i r) f → Consistent f → (t : Tally) → TallyAgrees t f →
    TallyAgrees (note_cancel (order_of_record r).number (order_of_record r).open_lots t) (apply (cancels_resting c n i r) f)
tally_agrees_cancels_resting c n i r f fit s t m =
    let o : Order = order_of_record r in
    record {
      sums = one_adjusted (cancels_resting c n i r) f fit s o.number (omega (arith, counts_itself (status n) o)) t m (take_off o.open_lots t.turn) (λ g. leaves_the_tally g t.turn (status n) o);
      turns = m.turns;
    }

pub tally_agrees_triggers : (z : Side) (x : Stop) (f : MatchState) → MayApply (triggers z x) f → Consistent f → RoomFor (triggers z x) f → (t : Tally) → TallyAgrees t f →
    TallyAgrees (note_trigger x.order.number t) (apply (triggers z x) f)
tally_agrees_triggers z x f fit s room t m =
    let o : Order = x.order in
    let e : Event = triggers z x in
    record {
      sums = one_adjusted e f fit s o.number (omega (arith, counts_itself waits o)) t m (λ a. Some (triggered_account t.turn a))
          (λ g. ap (on_account_if g) (named_is (Some (triggered_account t.turn (account waits (tally_row waits o)))) waits o)
          ∙ (ap (λ n. g incoming (row_with n o.open_lots 0 (row_of o))) m.turns
          ∙ (ap (λ n. g incoming (row_with f.session.next_stamp n 0 (row_of o))) (let y : o.open_lots ≡ o.open_lots - 0 = omega arith in y)
          ∙ sym (ap (λ r. g incoming (as_tally_row incoming r)) (refilled_row f.session.next_stamp 0 o (omega arith))))));
      turns = omega (arith, m.turns, stamp_is e f room);
    }

-- the incoming order comes to stand

abbrev rested_account : Account → Option Account
rested_account a = Some (rested a.status a.order)

-- 1 for an incoming order
abbrev incoming_only : Measure
incoming_only incoming o = 1
incoming_only _ o = 0

others_stay : (p : Status) (o : Order) → incoming_only p o ≡ 0 → rested_account (account p (tally_row p o)) ≡ Some (account p (tally_row p o))
others_stay incoming o z = absurd (omega arith)
others_stay _ o z = refl

pub tally_agrees_rests : (o : Order) (f : MatchState) → MayApply (rests o) f → Consistent f → (t : Tally) → TallyAgrees t f → TallyAgrees (incoming_rested t) (apply (rests o) f)
tally_agrees_rests o f fit s t m =
    let shows_in_full : ShowsInFull o = (subst IncomingReady fit.is_incoming s.incoming_ready).1 in
    record {
      sums = sums_adjusted incoming_only rested_account (rests o) f t.accounts fit s (over_nothing f.queues) others_stay (λ g. ap (λ n. g stands (row_with o.turn o.open_lots n (row_of o))) (sym shows_in_full)) m.sums;
      turns = m.turns;
    }

pub tally_agrees_idle : (f : MatchState) (t : Tally) → f.incoming ≡ None → TallyAgrees t f → TallyAgrees (incoming_rested t) f
tally_agrees_idle f t e m = record {
  sums = λ g. omega (
    arith,
    total_adjust g rested_account t.accounts,
    m.sums (λ p r. on_account_if g (rested_account (account p r))),
    over_agree f.queues f.incoming incoming_only (adjusted_measure rested_account g) (of_tally_row g) (λ p o z. ap (on_account_if g) (others_stay p o z))
        (subst (λ h. over incoming_only f.queues h ≡ 0) (sym e) (over_nothing f.queues)),
  );
  turns = m.turns;
}
