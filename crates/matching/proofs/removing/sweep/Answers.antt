use Rattle.std.proofs.Common.{◌≡◌, ◌-◌, ◌<◌, ◌+◌, sym, ap, ◌∙◌, arith}
use Rattle.orders.specs.declared.order.Order.{Order}
use Rattle.books.specs.Model.{count}
use Rattle.matching.specs.Sessions.{session_from}
use Rattle.matching.specs.Model.{MatchState}
use Rattle.matching.specs.Removing.{removes, sweep}
use Rattle.matching.proofs.SweepByRecord.{sweep_ends, sweep_cancels, sweep_passes, found_within, one_taken}
use Rattle.matching.proofs.removing.sweep.Goals as goal

pub loop-record-smaller-then-removes : goal.loop-record-smaller-then-removes
loop-record-smaller-then-removes g c =
    let q = g.B.Book.queues c.loop-record.book in
    let n = c.args.queue in
    let i = c.loop-record.at in
    let w : i < count n q = found_within n i q c.in-Some.record (sym c.look.ensures ∙ c.in-Some.is) in
    let t : count n (g.B.Book.queues c.cancel_resting.new.book) + 1 ≡ count n q =
    ap (λ (f : MatchState). count n f.queues + 1) (c.cancel_resting.ensures (session_from 1)) ∙ one_taken n i q w in
    omega arith

pub loop-record-preserved-then-removes : goal.loop-record-preserved-then-removes
loop-record-preserved-then-removes g c d =
    let q = g.B.Book.queues c.loop-record.book in
    let n = c.args.queue in
    let i = c.loop-record.at in
    let e = sym c.look.ensures ∙ c.in-Some.is in
    let w : i < count n q = found_within n i q c.in-Some.record e in
    let t : count n (g.B.Book.queues c.cancel_resting.new.book) + 1 ≡ count n q =
    ap (λ (f : MatchState). count n f.queues + 1) (c.cancel_resting.ensures d) ∙ one_taken n i q w in
    ap (λ (f : MatchState). sweep (count n (g.B.Book.queues c.cancel_resting.new.book) - i) c.args.removal c.args.cause n i f) (c.cancel_resting.ensures d)
    ∙ sym (sweep_cancels (count n q - i) (count n (g.B.Book.queues c.cancel_resting.new.book) - i) c.args.removal c.args.cause n i _ c.in-Some.record (omega arith) e (c.if-removes.ensures ∙ ap (λ (o : Order). removes c.args.removal o) c.order.ensures))
    ∙ c.loop-record.invariant d

pub overflow_add-at : goal.overflow_add-at
overflow_add-at g c =
    let q = g.B.Book.queues c.loop-record.book in
    let n = c.args.queue in
    let w : c.loop-record.at < count n q = found_within n c.loop-record.at q c.in-Some.record (sym c.look.ensures ∙ c.in-Some.is) in
    let b = g.met.B.Book.bounded c.loop-record.book in
    omega (arith, b.count_within n, b.capacity_within n)

pub loop-record-smaller : goal.loop-record-smaller
loop-record-smaller g c =
    let q = g.B.Book.queues c.loop-record.book in
    let n = c.args.queue in
    let w : c.loop-record.at < count n q = found_within n c.loop-record.at q c.in-Some.record (sym c.look.ensures ∙ c.in-Some.is) in
    omega arith

pub loop-record-preserved : goal.loop-record-preserved
loop-record-preserved g c d =
    let q = g.B.Book.queues c.loop-record.book in
    let n = c.args.queue in
    let i = c.loop-record.at in
    let e = sym c.look.ensures ∙ c.in-Some.is in
    let w : i < count n q = found_within n i q c.in-Some.record e in
    sym (sweep_passes (count n q - i) (count n q - (i + 1)) c.args.removal c.args.cause n i _ c.in-Some.record (omega arith) e (c.if-removes.ensures ∙ ap (λ (o : Order). removes c.args.removal o) c.order.ensures))
    ∙ c.loop-record.invariant d

pub returns : goal.returns
returns g c d =
    let q = g.B.Book.queues c.loop-record.book in
    sym (sweep_ends (count c.args.queue q - c.loop-record.at) c.args.removal c.args.cause c.args.queue c.loop-record.at _ (sym c.look.ensures ∙ c.in_default.is))
    ∙ c.loop-record.invariant d
