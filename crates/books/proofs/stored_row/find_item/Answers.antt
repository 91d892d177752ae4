use Rattle.std.proofs.Common.{sym, ◌∙◌}
use Rattle.books.proofs.MappedLists.{first_number_map}
use Rattle.books.proofs.stored_row.find_item.Goals as goal

pub returns : goal.returns
returns g c = c.find.ensures
    ∙ sym (first_number_map g.T.StoredRow.item g.T.Numbered.number g.T.StoredRow.item_number g.met.T.StoredRow.numbers c.args.number (g.L.QueueStore.contents c.args.store.now).rows)
