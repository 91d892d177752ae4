use Rattle.std.proofs.Common.{◌+◌, drop, sym, ap, ◌∙◌, arith}
use Rattle.venue.specs.Days.{State, state, set_up, at_least_1}
use Rattle.laws.specs.Tally.{starting}
use Rattle.laws.specs.Runs.{after}
use Rattle.laws.proofs.StepByStep.{one_step, no_step}
use Rattle.laws.proofs.WholeRuns.{always_lawful, always_fair, quiescent_set_up, tally_agrees_set_up}
use Rattle.laws.proofs.calls.run.Goals as goal

pub loop-form-preserved : goal.loop-form-preserved
loop-form-preserved g c =
    let forms = c.args.forms.now in
    let i = c.loop-form.form-index in (
      omega (arith, c.loop-form-test.true),
      ap (λ (s : State). after (drop (i + 1) forms) s) c.step-next.ensures.state
          ∙ sym (one_step forms i _ (state (g.B.Book.queues c.loop-form.book) c.loop-form.tape c.loop-form.current) c.loop-form-test.true)
          ∙ c.loop-form.invariant.1,
    )

pub returns : goal.returns
returns g c =
    let q = g.B.Book.queues c.args.book.now in
    let n = c.args.tape.now.limit in
    let s = set_up c.args.day c.args.stamp q n in
    let t = starting (at_least_1 c.args.stamp) in
    let k = quiescent_set_up c.args.day c.args.stamp q n in
    let m = tally_agrees_set_up c.args.day c.args.stamp q n in
    record {
      state =
          sym (no_step c.args.forms.now c.loop-form.form-index (state (g.B.Book.queues c.loop-form.book) c.loop-form.tape c.loop-form.current) c.loop-form-test.false)
          ∙ c.loop-form.invariant.1
          ∙ ap (λ (x : State). after c.args.forms.now x) c.set_up-current.ensures.state;
      lawful = always_lawful c.args.forms.now s t k m;
      fair = always_fair c.args.forms.now s t k m;
    }
