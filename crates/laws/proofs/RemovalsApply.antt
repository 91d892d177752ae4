-- Removals: each leaves a quiescent match state, and the tally agrees with it.
use Rattle.std.proofs.Common.{◌≡◌, ℕ, zero, suc, ◌+◌, ◌≤◌, false, List, [], ◌++◌, length, Some, None, Option, sym, refl, ap, ◌∙◌, append_assoc, arith, length-append}
use Rattle.std.specs.List.{remove, AllByRecursion, slice_get}
use Rattle.std.specs.Option.{option_map}
use Rattle.std.proofs.lemmas.Bool.{cond_both}
use Rattle.orders.specs.declared.side.Side.{Side}
use Rattle.orders.specs.declared.side.Side.TheVariants.{Buy, Sell}
use Rattle.orders.specs.declared.order.Order.{Order}
use Rattle.orders.specs.declared.order.Stop.{Stop}
use Rattle.books.specs.declared.queue.Queue.{Queue}
use Rattle.books.specs.declared.queue.Queue.TheVariants.{Orders, Stops}
use Rattle.books.specs.declared.queue.Record.{Record}
use Rattle.books.specs.declared.queue.Record.TheVariants.{Standing, Waiting}
use Rattle.books.specs.Model.{Queues, at, count, look_at, taken, order_of_record}
use Rattle.tapes.specs.declared.cause.Cause.{Cause}
use Rattle.tapes.specs.declared.line.Line.{Line}
use Rattle.matching.specs.declared.removal.Removal.{Removal}
use Rattle.matching.specs.Model.{MatchState, Event, cancels_resting, apply}
use Rattle.matching.specs.Running.{ripe}
use Rattle.matching.specs.Removing.{removes, sweep_at, sweep, swept, removals}
use Rattle.venue.specs.Rooms.{records}
use Rattle.laws.specs.Quiescence.{Unripe}
use Rattle.laws.specs.Tally.{Tally, Request, noted}
use Rattle.laws.specs.Fair.{FairLines}
use Rattle.laws.proofs.SortedLists.{length_removed, all_removed}
use Rattle.laws.proofs.ConsistentQueues.{at_with}
use Rattle.laws.proofs.EventsApply.{MayApply, RecordAt}
use Rattle.laws.specs.WithinRoom.{event_lines, Trace, ended, then}
use Rattle.laws.proofs.EventsWithinRoom.{trace-++, within_room}
use Rattle.laws.proofs.LinesAndStamps.{tape, RoomFor, tape_is, limit_is}
use Rattle.laws.proofs.RunsToRest.{consistent_apply, Quiescent}
use Rattle.laws.proofs.TallyAgrees.{TallyAgrees, tally_agrees_cancels_resting}
use Rattle.laws.proofs.LinesTell.{noted-++, fair-++}

pub found_record_at : (n : Queue) (i : ℕ) (r : Record) (q : Queues) → look_at n i q ≡ Some r → RecordAt n i r q
found_record_at (Orders s) i r q e = go (slice_get (at s q.stands) i) refl e
  where
    go : (m : Option Order) → slice_get (at s q.stands) i ≡ m → option_map Standing m ≡ Some r → RecordAt (Orders s) i r q
    go None k z = let u : ◌≡◌ {A = ℕ} 0 1 = cc in absurd (omega arith)
    go (Some o) k z = (o, (let u : r ≡ Standing o = cc in u), k)
found_record_at (Stops s) i r q e = go (slice_get (at s q.waits) i) refl e
  where
    go : (m : Option Stop) → slice_get (at s q.waits) i ≡ m → option_map Waiting m ≡ Some r → RecordAt (Stops s) i r q
    go None k z = let u : ◌≡◌ {A = ℕ} 0 1 = cc in absurd (omega arith)
    go (Some x) k z = (x, (let u : r ≡ Waiting x = cc in u), k)

-- one record less
fewer : (n : Queue) (i : ℕ) (r : Record) (q : Queues) → RecordAt n i r q → suc (records (taken n i q)) ≡ records q
fewer (Orders Buy) i r q h = omega (arith, length_removed q.stands.buy i h.0 h.2)
fewer (Orders Sell) i r q h = omega (arith, length_removed q.stands.sell i h.0 h.2)
fewer (Stops Buy) i r q h = omega (arith, length_removed q.waits.buy i h.0 h.2)
fewer (Stops Sell) i r q h = omega (arith, length_removed q.waits.sell i h.0 h.2)

unripe_cancel : (n : Queue) (i : ℕ) (f : MatchState) → Unripe f.session.last_price f.queues → Unripe f.session.last_price (taken n i f.queues)
unripe_cancel (Orders s) i f h = h
unripe_cancel (Stops s) i f h =
    at_with (λ (t : Side) l. AllByRecursion (λ (x : Stop). ripe t f.session.last_price x.trigger ≡ false) l) s (remove (at s f.queues.waits) i) f.queues.waits
    (all_removed (λ (x : Stop). ripe s f.session.last_price x.trigger ≡ false) (at s f.queues.waits) i (h s)) h

-- a free line for each record
abbrev pub RoomForRemovals : MatchState → Type 0
RoomForRemovals f = length (tape f) + records f.queues ≤ f.tape.limit

-- what holds after removals
pub record AfterRemovals (q : Request) (t : Tally) (f g : MatchState) : Type 0 where
  pub quiescent : Quiescent g
  pub lines : List Line
  pub tape_grew : tape g ≡ lines ++ tape f
  pub fair : FairLines q lines t
  pub matches : TallyAgrees (noted q lines t) g
  pub room_for_removals : RoomForRemovals g
  pub trace : Trace f g

after_no_removal : (q : Request) (t : Tally) (f : MatchState) → Quiescent f → RoomForRemovals f → TallyAgrees t f → AfterRemovals q t f f
after_no_removal q t f c s m = record { quiescent = c; lines = []; tape_grew = refl; fair = tt; matches = m; room_for_removals = s; trace = ended }

after_more_removals : (q : Request) (t : Tally) (f g h : MatchState) → (a : AfterRemovals q t f g) → AfterRemovals q (noted q a.lines t) g h → AfterRemovals q t f h
after_more_removals q t f g h a b = record {
  quiescent = b.quiescent;
  lines = b.lines ++ a.lines;
  tape_grew = b.tape_grew ∙ (ap (λ l. b.lines ++ l) a.tape_grew ∙ sym (append_assoc b.lines a.lines (tape f)));
  fair = fair-++ q b.lines a.lines t a.fair b.fair;
  matches = rw (noted-++ q b.lines a.lines t) b.matches;
  room_for_removals = b.room_for_removals;
  trace = trace-++ a.trace b.trace;
}

pub after_one_removal : (q : Request) (c : Cause) (n : Queue) (i : ℕ) (r : Record) (f : MatchState) (t : Tally) → RecordAt n i r f.queues → Quiescent f → RoomForRemovals f → TallyAgrees t f →
    AfterRemovals q t f (apply (cancels_resting c n i r) f)
after_one_removal q c n i r f t l k s m =
    let e : Event = cancels_resting c n i r in
    let fit : MayApply e f = (k.idle, l) in
    let w = fewer n i r f.queues l in
    let room : RoomFor e f = record { free_lines = omega arith; free_stamps = λ z. absurd (omega arith) } in
    let d : length (tape (apply e f)) ≡ length (event_lines e) + length (tape f) = ap length (tape_is e f room) ∙ length-append (event_lines e) (tape f) in
    record {
      quiescent = record { consistent = consistent_apply e f fit room k.consistent; idle = k.idle; unripe = unripe_cancel n i f k.unripe };
      lines = event_lines e;
      tape_grew = tape_is e f room;
      fair = (tt, tt);
      matches = tally_agrees_cancels_resting c n i r f fit k.consistent t m;
      room_for_removals = omega (arith, limit_is e f);
      trace = then e (within_room e f room tt) ended;
    }

after_sweep : (q : Request) (k : ℕ) (p : Removal) (c : Cause) (n : Queue) (i : ℕ) (f : MatchState) (t : Tally) → Quiescent f → RoomForRemovals f → TallyAgrees t f → AfterRemovals q t f (sweep k p c n i f)
unfolding sweep
after_sweep q zero p c n i f t d s m = after_no_removal q t f d s m
after_sweep q (suc k) p c n i f t d s m = go (look_at n i f.queues) refl (after_sweep q k p c n)
  where
    go : (x : Option Record) → look_at n i f.queues ≡ x → ((i : ℕ) (f : MatchState) (t : Tally) → Quiescent f → RoomForRemovals f → TallyAgrees t f → AfterRemovals q t f (sweep k p c n i f)) →
        AfterRemovals q t f (sweep_at x p (λ r. sweep k p c n i (apply (cancels_resting c n i r) f)) (sweep k p c n (i + 1) f) f)
    go None e ih = after_no_removal q t f d s m
    go (Some r) e ih =
        cond_both (removes p (order_of_record r)) (sweep k p c n i (apply (cancels_resting c n i r) f)) (sweep k p c n (i + 1) f) (AfterRemovals q t f)
        (λ _. let a = after_one_removal q c n i r f t (found_record_at n i r f.queues e) d s m in
        after_more_removals q t f (apply (cancels_resting c n i r) f) (sweep k p c n i (apply (cancels_resting c n i r) f)) a (ih i (apply (cancels_resting c n i r) f) (noted q a.lines t) a.quiescent a.room_for_removals a.matches))
        (λ _. ih (i + 1) f t d s m)

pub after_removals : (q : Request) (p : Removal) (c : Cause) (f : MatchState) (t : Tally) → Quiescent f → RoomForRemovals f → TallyAgrees t f → AfterRemovals q t f (removals p c f)
after_removals q p c f t d s m =
    let f1 : MatchState = swept p c (Orders Buy) f in
    let f2 : MatchState = swept p c (Orders Sell) f1 in
    let f3 : MatchState = swept p c (Stops Buy) f2 in
    let f4 : MatchState = swept p c (Stops Sell) f3 in
    let a : AfterRemovals q t f f1 = after_sweep q (count (Orders Buy) f.queues) p c (Orders Buy) 0 f t d s m in
    let b : AfterRemovals q t f f2 = after_more_removals q t f f1 f2 a (after_sweep q (count (Orders Sell) f1.queues) p c (Orders Sell) 0 f1 (noted q a.lines t) a.quiescent a.room_for_removals a.matches) in
    let e : AfterRemovals q t f f3 = after_more_removals q t f f2 f3 b (after_sweep q (count (Stops Buy) f2.queues) p c (Stops Buy) 0 f2 (noted q b.lines t) b.quiescent b.room_for_removals b.matches) in
    after_more_removals q t f f3 f4 e (after_sweep q (count (Stops Sell) f3.queues) p c (Stops Sell) 0 f3 (noted q e.lines t) e.quiescent e.room_for_removals e.matches)
