use Rattle.std.proofs.Common.{sym, ◌∙◌}
use Rattle.sheets.proofs.OnePairMore.{search_more}
use Rattle.sheets.proofs.directory.Directory.first_misplaced.Goals as goal

pub loop-k-preserved : goal.loop-k-preserved
loop-k-preserved c =
    sym (search_more c.args.self c.args.bytes.now c.args.count c.loop-k.k c.loop-k.least c.in-Some.end
    c.loop-k-test.true (sym c.in-Some.ensures))
    ∙ c.loop-k.invariant
