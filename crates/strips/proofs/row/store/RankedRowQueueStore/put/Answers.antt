use Rattle.std.proofs.Common.{ap, ◌∙◌, arith}
use Rattle.std.specs.List.{list_all}
use Rattle.books.specs.RankedLists.{rank_index}
use Rattle.strips.specs.Ranked.{ranked}
use Rattle.strips.specs.Highest.{not_above}
use Rattle.strips.proofs.EachRowPasses.{each_weaker, each_inserted}
use Rattle.strips.proofs.RowsByRank.{put_leaves}
use Rattle.strips.proofs.row.store.RankedRowQueueStore.put.Goals as goal

pub returns-clause-state : goal.returns-clause-state
returns-clause-state g c =
    let s = c.args.self.now in
    put_leaves s.count s.rows.now c.used-count.result g.T.Ranked.rank c.insert_in.new.rows c.args.row (omega (arith, c.if-count-capacity.false, c.capacity.ensures.answer)) c.used-count.ensures.front c.insert_in.ensures

-- with the new row the earlier rows are not above the highest numbers
pub invariant_of-self : goal.invariant_of-self
invariant_of-self g c =
    let s = c.args.self.now in
    let n = g.T.Numbered in
    record { rows_not_above = each_weaker (not_above n.number n.firm n.client s.highest) (not_above n.number n.firm n.client c.with-self.result) c.with-self.ensures.others (ranked s.count s.rows.now) s.rows_not_above }

-- nor is the new row
pub invariant_of-self-2 : goal.invariant_of-self-2
invariant_of-self-2 g c =
    let s = c.args.self.now in
    let n = g.T.Numbered in
    let test = not_above n.number n.firm n.client c.with-self.result in
    let xs = ranked s.count s.rows.now in
    let old = each_weaker (not_above n.number n.firm n.client s.highest) test c.with-self.ensures.others xs s.rows_not_above in
    record {
      rows_not_above =
          ap (list_all test) (put_leaves s.count s.rows.now c.used-count.result g.T.Ranked.rank c.insert_in.new.rows c.args.row (omega (arith, c.if-count-capacity.false, c.capacity.ensures.answer)) c.used-count.ensures.front c.insert_in.ensures)
          ∙ each_inserted test xs (rank_index g.T.Ranked.rank (g.T.Ranked.rank c.args.row) xs) c.args.row old c.with-self.ensures.covered;
    }
