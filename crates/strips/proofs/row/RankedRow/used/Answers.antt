use Rattle.std.proofs.Common.{min, sym, ap, ◌∙◌}
use Rattle.strips.proofs.RowsByRank.{ranked_length, ranked_used}
use Rattle.strips.proofs.row.RankedRow.used.Goals as goal

pub returns-clause-answer : goal.returns-clause-answer
returns-clause-answer g c =
    c.min.ensures ∙ ap (min c.args.self.now.count) c.capacity.ensures.answer ∙ sym (ranked_length c.args.self.now.count c.args.self.now.rows.now)

pub returns-clause-front : goal.returns-clause-front
returns-clause-front g c =
    ranked_used c.args.self.now.count c.args.self.now.rows.now c.min.result (c.min.ensures ∙ ap (min c.args.self.now.count) c.capacity.ensures.answer)
