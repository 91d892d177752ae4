use Rattle.std.proofs.Common.{sym, rules}
use Rattle.orders.proofs.RowRoundTrip.{read_in_bounds, read_out_of_bounds}
use Rattle.orders.proofs.row.OrderRow.sound.Goals as goal

pub returns-then-in_bounds-clause-value : goal.returns-then-in_bounds-clause-value
returns-then-in_bounds-clause-value c = sym (read_in_bounds c.args.self (search rules))

pub returns-clause-value : goal.returns-clause-value
returns-clause-value c = sym (read_out_of_bounds c.args.self (search rules))
