use Rattle.std.proofs.Common.{◌∙◌}
use Rattle.strips.specs.Ranked.{ranked}
use Rattle.strips.proofs.NoneAboveHighest.{client_not_above}
use Rattle.strips.proofs.row.store.RankedRowQueueStore.may_have_client.Goals as goal

pub returns : goal.returns
returns g c =
    let s = c.args.self.now in
    λ one. c.may_have_client.ensures ∙ client_not_above g.T.Numbered.number g.T.Numbered.firm g.T.Numbered.client s.highest c.args.firm c.args.client (ranked s.count s.rows.now) s.rows_not_above one
