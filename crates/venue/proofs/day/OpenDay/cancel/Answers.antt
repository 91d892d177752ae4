use Rattle.std.proofs.Common.{Result, ap, ◌∙◌}
use Rattle.forms.specs.declared.refusal.Refusal.{Refusal}
use Rattle.venue.specs.declared.lookup.Found.{Found}
use Rattle.venue.specs.Steps.{after_answer, cancel_found}
use Rattle.venue.specs.Days.{between_steps, opened}
use Rattle.venue.proofs.day.OpenDay.cancel.Goals as goal

-- the record that was found is cancelled
pub returns-in-Ok-clause-state : goal.returns-in-Ok-clause-state
returns-in-Ok-clause-state g c =
    let f = between_steps (g.B.Book.queues c.args.book.now) c.args.tape.now c.args.self.session in
    ap (opened c.args.self.day) (c.cancel_resting.ensures c.args.self.session ∙ ap (λ (r : Result Found Refusal). after_answer cancel_found r f) c.in-Ok.ensures)
