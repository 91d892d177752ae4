use Rattle.worked_examples.proofs.EachCase.{table_holds}
use Rattle.worked_examples.proofs.worked_cases.Goals as goal

pub returns : goal.returns
returns c = table_holds
