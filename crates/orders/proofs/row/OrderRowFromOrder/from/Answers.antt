use Rattle.std.proofs.Common.{refl}
use Rattle.orders.proofs.RowRoundTrip.{order_of_its_row}
use Rattle.orders.proofs.row.OrderRowFromOrder.from.Goals as goal

pub returns : goal.returns
returns c = (refl, order_of_its_row c.args.order)
