use Rattle.std.proofs.Common.{sym, rules}
use Rattle.strips.specs.Ranked.{ranked}
use Rattle.strips.proofs.NoneAboveHighest.{none_above}
use Rattle.strips.proofs.row.store.RankedRowQueueStore.find.Goals as goal

pub returns-then-not-may_have : goal.returns-then-not-may_have
returns-then-not-may_have g c =
    let s = c.args.self.now in
    sym (none_above g.T.Numbered.number g.T.Numbered.firm g.T.Numbered.client s.highest c.args.number (search rules) (ranked s.count s.rows.now) s.rows_not_above)
