use Rattle.std.proofs.Common.{ap, ◌∙◌}
use Rattle.std.specs.List.{list_all}
use Rattle.strips.specs.Ranked.{ranked}
use Rattle.strips.specs.Highest.{not_above}
use Rattle.strips.proofs.RowsByRank.{take_leaves, take_past}
use Rattle.strips.proofs.EachRowPasses.{each_removed}
use Rattle.strips.proofs.row.store.RankedRowQueueStore.take.Goals as goal

pub returns-then-index-count-clause-state : goal.returns-then-index-count-clause-state
returns-then-index-count-clause-state g c =
    let s = c.args.self.now in
    take_leaves s.count s.rows.now c.used-count.result c.used-count.ensures.answer c.used-count.ensures.front c.args.index c.remove_in.new.rows c.remove_in.ensures

pub returns-else-index-count-clause-state : goal.returns-else-index-count-clause-state
returns-else-index-count-clause-state g c =
    let s = c.args.self.now in
    take_past s.count s.rows.now c.used-count.result c.used-count.ensures.answer c.args.index c.if-index-count.false

-- the rows that are left are not above the highest numbers
pub invariant_of-self : goal.invariant_of-self
invariant_of-self g c =
    let s = c.args.self.now in
    let test = not_above g.T.Numbered.number g.T.Numbered.firm g.T.Numbered.client s.highest in
    record { rows_not_above = ap (list_all test) (take_leaves s.count s.rows.now c.used-count.result c.used-count.ensures.answer c.used-count.ensures.front c.args.index c.remove_in.new.rows c.remove_in.ensures) ∙ each_removed test (ranked s.count s.rows.now) c.args.index s.rows_not_above }
