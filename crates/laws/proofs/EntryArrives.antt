-- An entry: its first event may apply, and the tally agrees with it.
use Rattle.std.proofs.Common.{◌≡◌, ℕ, ◌+◌, ◌-◌, ◌≤◌, false, ◌&&◌, ◌||◌, ltb, eqb, List, [], ◌∷◌, Some, None, Option, unwrap_or, sym, refl, ap, ◌∙◌, subst, arith, inl, inr}
use Rattle.std.specs.List.{AllByRecursion, slice_get}
use Rattle.std.specs.Option.{option_map}
use Rattle.std.proofs.lemmas.Bool.{cond-true, eq-eqb}
use Rattle.orders.specs.declared.side.Side.{Side}
use Rattle.orders.specs.declared.price.Price.{Price}
use Rattle.orders.specs.declared.order.Order.{Order}
use Rattle.orders.specs.declared.row.OrderRow.{OrderRow}
use Rattle.orders.specs.Sides.{opposite, is_immediate}
use Rattle.books.specs.declared.queue.Record.TheVariants.{Standing, Waiting}
use Rattle.books.specs.Model.{Queues, at, standing_order}
use Rattle.tapes.specs.declared.cause.Cause.{Cause}
use Rattle.tapes.specs.declared.cause.Cause.TheVariants.{ShortReach, NotPut}
use Rattle.matching.specs.declared.new_order.OrderType.{OrderType}
use Rattle.matching.specs.declared.new_order.OrderType.TheVariants.{Limit, Market, StopLimit}
use Rattle.matching.specs.declared.new_order.NewOrder.{NewOrder}
use Rattle.matching.specs.Model.{MatchState, Event, accepts, accepts_stop, accepts_and_cancels, accepts_unmatched, apply}
use Rattle.matching.specs.Running.{total}
use Rattle.matching.specs.Entering.{entered_order, entered_stop, arrival}
use Rattle.validation.specs.Combinations.{is_stop}
use Rattle.laws.specs.Tally.{Status, waits, incoming, Account, Tally, Request, entry, account, adjust, only, numbered, take_off, refilled_if, shown_ran_out, lots_off, price_of_none, limit_as, status_as, entered_account_row, noted}
use Rattle.laws.specs.Fair.{FairLines}
use Rattle.laws.proofs.ArrivalCases.{LimitOf, arrival_cases}
use Rattle.laws.proofs.ConsistentQueues.{InPriceRange, OnSide}
use Rattle.laws.proofs.SumsOverOrders.{Measure, over_agree, everywhere, with_number}
use Rattle.laws.proofs.RowsInBounds.{QuantityAllowed, entered_row, order_from_row, entered_shows}
use Rattle.laws.proofs.EventsApply.{MayEnter, MayApply, measure_out, measure_in, before_event, after_event}
use Rattle.laws.specs.WithinRoom.{event_lines}
use Rattle.laws.proofs.LinesAndStamps.{RoomFor, stamp_is}
use Rattle.laws.proofs.AccountsBalance.{unused_nowhere}
use Rattle.laws.proofs.RunsToRest.{Quiescent, put_found_place}
use Rattle.laws.proofs.TallyAgrees.{RowMeasure, of_tally_row, as_tally_row, tally_row, on_account, on_account_if, adjusted_measure, TallyAgrees, total_adjust, unnamed_stays}
use Rattle.laws.proofs.FirstPrices.{price_of_first, first_price_is}

-- the prices of an entry fit the key of a rank
abbrev pub PricesInRange : OrderType → Type 0
PricesInRange (Limit price) = InPriceRange price
PricesInRange Market = Unit {0}
PricesInRange (StopLimit limit trigger) = InPriceRange limit × InPriceRange trigger

-- what the checks of an entry give (rules 8)
pub record ValidEntry (a : NewOrder) : Type 0 where
  pub allowed : QuantityAllowed a.quantity a.disclosed
  pub price_in_range : PricesInRange a.order_type
  pub stop : (is_stop a.order_type && (is_immediate a.validity || ltb 0 a.minimum)) ≡ false
  pub least : a.minimum ≤ a.quantity

may_enter : (a : NewOrder) (price : Price) (f : MatchState) → ValidEntry a → InPriceRange price → f.incoming ≡ None → MayEnter (entered_order a price f.session.next_stamp) f
may_enter a price f p l h = record { idle = h; new = refl; turn = refl; whole = refl; price_in_range = l; shows_in_full = entered_shows a price f.session.next_stamp p.allowed }

first_in_range : (s : Side) (l : List Order) → AllByRecursion (OnSide s) l → (r : Order) → standing_order (option_map Standing (slice_get l 0)) ≡ Some r → InPriceRange r.price
first_in_range s [] d r e = let z : ◌≡◌ {A = ℕ} 0 1 = cc in absurd (omega arith)
first_in_range s (x ∷ l) d r e = subst (λ (o : Order). InPriceRange o.price) (let z : x ≡ r = cc in z) d.0.1

limit_in_range : (a : NewOrder) (f : MatchState) (price : Price) → ValidEntry a → Quiescent f → LimitOf a f.queues price → InPriceRange price
limit_in_range a f price p c (inl e) = subst PricesInRange e p.price_in_range
limit_in_range a f price p c (inr (e, (r, first, same))) =
    let s : Side = opposite a.side in
    subst InPriceRange same (first_in_range s (at s f.queues.stands) (c.consistent.queues.on_side s) r first)

pub may_apply_arrival : (a : NewOrder) (f : MatchState) → ValidEntry a → Quiescent f → MayApply (arrival a f.session.next_stamp f.queues) f
may_apply_arrival a f p c =
    arrival_cases a f.session.next_stamp f.queues (λ e. MayApply e f) (λ price l _. may_enter a price f p (limit_in_range a f price p c l) c.idle)
    (λ price l. may_enter a price f p (limit_in_range a f price p c l) c.idle) (c.idle, refl)
    (λ limit trigger k e. record {
      enters = may_enter a limit f p (stop_in_range limit trigger k).0 c.idle;
      has_place = put_found_place (Waiting (entered_stop trigger (entered_order a limit f.session.next_stamp))) f.queues e;
      price_in_range = (stop_in_range limit trigger k).1;
    })
    (λ limit trigger error k e. may_enter a limit f p (stop_in_range limit trigger k).0 c.idle)
  where
    stop_in_range : (limit trigger : Price) → a.order_type ≡ StopLimit limit trigger → InPriceRange limit × InPriceRange trigger
    stop_in_range limit trigger k = subst PricesInRange k p.price_in_range

-- the lines of an entry's first event have no trade that is not fair
abbrev NoTrade : Request → Tally → Event → Type 0
NoTrade q t e = FairLines q (event_lines e) t

pub no_trade_arrival : (a : NewOrder) (stamp : ℕ) (q : Queues) (t : Tally) → NoTrade (entry a) t (arrival a stamp q)
no_trade_arrival a stamp q t =
    arrival_cases a stamp q (NoTrade (entry a) t) (λ _ _ _. (tt, tt)) (λ _ _. ((tt, tt), tt)) ((tt, tt), tt) (λ _ _ _ _. (tt, tt)) (λ _ _ _ _ _. ((tt, tt), tt))

-- the tally has the entry's order

entered_tally_row : (a : NewOrder) (price : Price) (p : Status) (stamp : ℕ) → ValidEntry a →
    ((n : ℕ) → as_tally_row p (entered_row a price stamp) ≡ entered_account_row a price stamp stamp) → (turn : ℕ) → turn ≡ stamp →
    entered_account_row a price stamp turn ≡ tally_row p (entered_order a price stamp)
entered_tally_row a price p stamp h e turn z = ap (entered_account_row a price stamp) z ∙ (sym (e 0) ∙ sym (ap (as_tally_row p) (order_from_row a price stamp h.allowed)))

module _ (a : NewOrder) (f : MatchState) (t : Tally) (pr : ValidEntry a) (c : Quiescent f) (m : TallyAgrees t f) where
  -- an event that only puts an order in adds its account
  account_joins : (e : Event) (p : Status) (x : Order) (r : OrderRow) → MayApply e f → ((g : Measure) → measure_out e f g ≡ 0) → ((g : Measure) → measure_in e f g ≡ g p x) →
      r ≡ tally_row p x → (g : RowMeasure) → total (on_account g) (account p r ∷ t.accounts) ≡ everywhere (of_tally_row g) (apply e f)
  account_joins e p x r fit none one is g =
      let z : g p r ≡ g p (tally_row p x) = ap (g p) is in
      omega (arith, m.sums g, before_event (of_tally_row g) e f fit, after_event (of_tally_row g) e f fit c.consistent.queues c.consistent.accounted.numbers_unique, none (of_tally_row g), one (of_tally_row g))

  -- an event whose order is cancelled at once leaves the accounts as they were
  account_passes : (e : Event) (p : Status) (r : OrderRow) (n lots turn : ℕ) → MayApply e f → ((g : Measure) → measure_out e f g ≡ 0) → ((g : Measure) → measure_in e f g ≡ 0) →
      r.number ≡ n → n ≡ f.session.next_stamp → r.open_lots ≡ lots →
      (g : RowMeasure) → total (on_account g) (adjust (λ a. only (numbered n a) (take_off lots turn a) a) (account p r ∷ t.accounts)) ≡ everywhere (of_tally_row g) (apply e f)
  account_passes e p r n lots turn fit none also num new all g =
      let h : Account → Option Account = λ a. only (numbered n a) (take_off lots turn a) a in
      let off : h (account p r) ≡ None = cond-true (eqb r.number n) (take_off lots turn (account p r)) (Some (account p r)) (eq-eqb r.number n num)
      ∙ cond-true (eqb (r.open_lots - lots) 0) None (Some (account p (refilled_if (shown_ran_out p (lots_off lots r)) turn (lots_off lots r)))) (eq-eqb (r.open_lots - lots) 0 (omega arith)) in
      let z : on_account_if g (h (account p r)) ≡ 0 = ap (on_account_if g) off in
      omega (
        arith,
        total_adjust g h (account p r ∷ t.accounts),
        m.sums (λ p r. on_account_if g (h (account p r))),
        over_agree f.queues f.incoming (with_number n) (adjusted_measure h g) (of_tally_row g) (λ p o z. ap (on_account_if g)
            (unnamed_stays n (take_off lots turn (account p (tally_row p o))) p o z)) (unused_nowhere f c.consistent.accounted n (omega arith)),
        before_event (of_tally_row g) e f fit,
        after_event (of_tally_row g) e f fit c.consistent.queues c.consistent.accounted.numbers_unique,
        none (of_tally_row g),
        also (of_tally_row g),
      )

  -- the tally agrees after an entry's first event
  abbrev AgreesAfter : Event → Type 0
  AgreesAfter e = MayApply e f → RoomFor e f → TallyAgrees (noted (entry a) (event_lines e) t) (apply e f)

  -- an entered order has its whole quantity open
  whole : (price : Price) → (entered_order a price f.session.next_stamp).open_lots ≡ a.quantity
  whole price = ap (λ (r : OrderRow). r.open_lots) (order_from_row a price f.session.next_stamp pr.allowed)

  tally_agrees_accepts_and_cancels : (cause : Cause) (price : Price) → AgreesAfter (accepts_and_cancels cause (entered_order a price f.session.next_stamp))
  tally_agrees_accepts_and_cancels cause price fit room =
      let o : Order = entered_order a price f.session.next_stamp in
      let e : Event = accepts_and_cancels cause o in
      record {
        sums = account_passes e (status_as a.order_type) (entered_account_row a (limit_as a.order_type a.side t.accounts) o.number t.turn) o.number o.open_lots
            (t.turn + 1) fit (λ g. refl) (λ g. refl) refl refl (sym (whole price));
        turns = omega (arith, m.turns, stamp_is e f room);
      }

  tally_agrees_accepts : (price : Price) → status_as a.order_type ≡ incoming → limit_as a.order_type a.side t.accounts ≡ price →
      AgreesAfter (accepts (entered_order a price f.session.next_stamp))
  tally_agrees_accepts price k l fit room =
      let o : Order = entered_order a price f.session.next_stamp in
      let e : Event = accepts o in
      record {
        sums = subst (λ (p : Status). (g : RowMeasure) → total (on_account g) (account p
            (entered_account_row a (limit_as a.order_type a.side t.accounts) o.number t.turn) ∷ t.accounts) ≡ everywhere (of_tally_row g) (apply e f)) (sym k)
            (subst (λ (z : Price). (g : RowMeasure) → total (on_account g) (account incoming (entered_account_row a z o.number t.turn) ∷ t.accounts) ≡ everywhere (of_tally_row g) (apply e f)) (sym l)
            (account_joins e incoming o (entered_account_row a price o.number t.turn) fit (λ g. refl) (λ g. refl) (entered_tally_row a price incoming f.session.next_stamp pr (λ _. refl) t.turn m.turns)));
        turns = omega (arith, m.turns, stamp_is e f room);
      }

  tally_agrees_unmatched : AgreesAfter (accepts_unmatched f.session.next_stamp a.quantity)
  tally_agrees_unmatched fit room =
      let ev : Event = accepts_unmatched f.session.next_stamp a.quantity in
      record {
        sums = account_passes ev (status_as a.order_type) (entered_account_row a (limit_as a.order_type a.side t.accounts) f.session.next_stamp t.turn) f.session.next_stamp
            a.quantity (t.turn + 1) fit (λ g. refl) (λ g. refl) refl refl refl;
        turns = omega (arith, m.turns, stamp_is ev f room);
      }

  tally_agrees_accepts_stop : (limit trigger : Price) → a.order_type ≡ StopLimit limit trigger →
      AgreesAfter (accepts_stop (entered_stop trigger (entered_order a limit f.session.next_stamp)))
  tally_agrees_accepts_stop limit trigger k fit room =
      let o : Order = entered_order a limit f.session.next_stamp in
      let ev : Event = accepts_stop (entered_stop trigger o) in
      record {
        sums = subst (λ (z : OrderType). (g : RowMeasure) → total (on_account g) (account (status_as z)
            (entered_account_row a (limit_as z a.side t.accounts) o.number t.turn) ∷ t.accounts) ≡ everywhere (of_tally_row g) (apply ev f)) (sym k)
            (account_joins ev waits o (entered_account_row a limit o.number t.turn) fit (λ g. refl) (λ g. refl) (entered_tally_row a limit waits f.session.next_stamp pr (λ _. refl) t.turn m.turns));
        turns = omega (arith, m.turns, stamp_is ev f room);
      }

  -- the tally's limit is the entry's
  tally_limit : (price : Price) → LimitOf a f.queues price → (status_as a.order_type ≡ incoming) × (limit_as a.order_type a.side t.accounts ≡ price)
  tally_limit price (inl e) = (ap status_as e, ap (λ (z : OrderType). limit_as z a.side t.accounts) e)
  tally_limit price (inr (e, (r, first, same))) = (
    ap status_as e,
    ap (λ (z : OrderType). limit_as z a.side t.accounts) e
        ∙ ap (λ (z : Option Price). unwrap_or z price_of_none) (first_price_is (opposite a.side) f t c.consistent.queues m ∙ of_first (at (opposite a.side) f.queues.stands) first) ∙ same,
  )
    where
      of_first : (l : List Order) → standing_order (option_map Standing (slice_get l 0)) ≡ Some r → price_of_first l ≡ Some r.price
      of_first [] z = let u : ◌≡◌ {A = ℕ} 0 1 = cc in absurd (omega arith)
      of_first (x ∷ l) z = ap (λ (o : Order). Some o.price) (let u : x ≡ r = cc in u)

  pub tally_agrees_arrival : RoomFor (arrival a f.session.next_stamp f.queues) f →
      TallyAgrees (noted (entry a) (event_lines (arrival a f.session.next_stamp f.queues)) t) (apply (arrival a f.session.next_stamp f.queues) f)
  tally_agrees_arrival room =
      arrival_cases a f.session.next_stamp f.queues AgreesAfter (λ price l _. let k = tally_limit price l in tally_agrees_accepts price k.0 k.1)
      (λ price _. tally_agrees_accepts_and_cancels ShortReach price) tally_agrees_unmatched (λ limit trigger k _. tally_agrees_accepts_stop limit trigger k)
      (λ limit _ _ _ _. tally_agrees_accepts_and_cancels NotPut limit) (may_apply_arrival a f pr c) room
