use Rattle.std.proofs.Common.{ap, ◌∙◌}
use Rattle.books.proofs.MappedLists.{put_mapped}
use Rattle.books.proofs.stored_row.put_item.Goals as goal

pub returns-clause-state : goal.returns-clause-state
returns-clause-state g c = let k = g.T.StoredRow in
    put_mapped k.item g.T.Ranked.rank k.item_rank g.met.T.StoredRow.same_rank_as_item c.put.result c.from_item.result c.args.item (g.L.QueueStore.contents c.args.store.now).rows (g.L.QueueStore.contents c.put.new.self).rows (ap k.item c.from_item.ensures ∙ g.met.T.StoredRow.round_trip c.args.item) c.put.ensures.state
