use Rattle.forms.specs.declared.form.Form.TheVariants.{Cancel}
use Rattle.venue.specs.Days.{state}
use Rattle.venue.specs.declared.day.Day.TheVariants.{Open}
use Rattle.laws.proofs.WholeRuns.{holds_after}
use Rattle.laws.proofs.days.cancel.Goals as goal

pub returns-clause-holds_after : goal.returns-clause-holds_after
returns-clause-holds_after g c = holds_after (Cancel c.args.form) (state (g.B.Book.queues c.args.book.now) c.args.tape.now (Open c.args.day))
