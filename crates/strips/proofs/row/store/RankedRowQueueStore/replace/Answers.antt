use Rattle.std.proofs.Common.{ap, ◌∙◌}
use Rattle.strips.specs.Ranked.{ranked}
use Rattle.std.specs.List.{list_all}
use Rattle.strips.specs.Highest.{not_above}
use Rattle.strips.proofs.RowsByRank.{ranked_set}
use Rattle.strips.proofs.EachRowPasses.{each_weaker, each_set}
use Rattle.strips.proofs.row.store.RankedRowQueueStore.replace.Goals as goal

pub returns-then-index-count-clause-state : goal.returns-then-index-count-clause-state
returns-then-index-count-clause-state g c =
    let s = c.args.self.now in
    ap (ranked s.count) c.write_in.ensures ∙ ranked_set s.count s.rows.now c.used-count.result c.args.index c.args.row c.used-count.ensures.answer c.if-index-count.true

-- with the other row the earlier rows are not above the highest numbers
pub invariant_of-self : goal.invariant_of-self
invariant_of-self g c =
    let s = c.args.self.now in
    let n = g.T.Numbered in
    record { rows_not_above = each_weaker (not_above n.number n.firm n.client s.highest) (not_above n.number n.firm n.client c.with-self.result) c.with-self.ensures.others (ranked s.count s.rows.now) s.rows_not_above }

-- nor is that row
pub invariant_of-self-then-index-count : goal.invariant_of-self-then-index-count
invariant_of-self-then-index-count g c =
    let s = c.args.self.now in
    let n = g.T.Numbered in
    let test = not_above n.number n.firm n.client c.with-self.result in
    let xs = ranked s.count s.rows.now in
    let old = each_weaker (not_above n.number n.firm n.client s.highest) test c.with-self.ensures.others xs s.rows_not_above in
    record {
      rows_not_above =
          ap (list_all test) (ap (ranked s.count) c.write_in.ensures ∙ ranked_set s.count s.rows.now c.used-count.result c.args.index c.args.row c.used-count.ensures.answer c.if-index-count.true)
          ∙ each_set test xs c.args.index c.args.row old c.with-self.ensures.covered;
    }
