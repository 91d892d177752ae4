use Rattle.std.proofs.Common.{map, ap, ◌∙◌}
use Rattle.books.proofs.MappedLists.{removed_map}
use Rattle.books.proofs.stored_row.take_item.Goals as goal

pub returns-clause-state : goal.returns-clause-state
returns-clause-state g c = let f = g.T.StoredRow.item in
    ap (map f) c.take.ensures.state ∙ removed_map f (g.L.QueueStore.contents c.args.store.now).rows c.args.index
