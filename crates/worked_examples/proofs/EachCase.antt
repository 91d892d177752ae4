-- Each case of the table, by computing.
use Rattle.std.proofs.Common.{rules}
use Rattle.orders.specs.Bounds.{keeps_bounds}
use Rattle.matching.specs.Model.{put_back}
use Rattle.matching.specs.Running.{run_events, run_to_rest, parts, queues_weight}
use Rattle.worked_examples.specs.CaseTable.{WorkedCases}

-- what the rules say is what the definitions compute
pub table_holds : WorkedCases
unfolding keeps_bounds put_back run_events run_to_rest parts queues_weight
table_holds = search rules
