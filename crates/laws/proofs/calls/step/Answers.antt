use Rattle.venue.specs.Days.{state}
use Rattle.laws.proofs.WholeRuns.{holds_after}
use Rattle.laws.proofs.OneStepHolds.{step_within_room, step_filled}
use Rattle.laws.proofs.calls.step.Goals as goal

pub returns : goal.returns
returns g c =
    let s = state (g.B.Book.queues c.args.book.now) c.args.tape.now c.args.day in
    record {
      answer = c.step.ensures.answer;
      state = c.step.ensures.state;
      holds_after = holds_after c.args.form s;
      within_room = step_within_room c.args.form s;
      filled = step_filled c.args.form s;
    }
