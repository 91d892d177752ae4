use Rattle.std.proofs.Common.{◌≡◌, map, slice_set, ap, ◌∙◌, rules}
use Rattle.std.proofs.lemmas.List.{map-set}
use Rattle.books.specs.RankedLists.{ranks_as}
use Rattle.books.proofs.MappedLists.{swap_map}
use Rattle.books.proofs.stored_row.swap_item.Goals as goal

pub returns-then-allowed-clause-state : goal.returns-then-allowed-clause-state
returns-then-allowed-clause-state g c =
    let k = g.T.StoredRow in
    let xs = (g.L.QueueStore.contents c.args.store.now).rows in
    let round_trip : k.item c.from_item-row.result ≡ c.args.item = ap k.item c.from_item-row.ensures ∙ g.met.T.StoredRow.round_trip c.args.item in
    let left : map k.item (g.L.QueueStore.contents c.replace.new.self).rows ≡ slice_set (map k.item xs) c.args.index c.args.item =
    ap (map k.item) c.replace.ensures.state
    ∙ map-set k.item xs c.args.index c.from_item-row.result
    ∙ ap (slice_set (map k.item xs) c.args.index) round_trip in
    search rules

pub returns-else-allowed-clause-answer : goal.returns-else-allowed-clause-answer
returns-else-allowed-clause-answer g c =
    let k = g.T.StoredRow in
    let xs = (g.L.QueueStore.contents c.args.store.now).rows in
    let round_trip : k.item c.from_item-row.result ≡ c.args.item = ap k.item c.from_item-row.ensures ∙ g.met.T.StoredRow.round_trip c.args.item in
    c.ranks_as-allowed.ensures ∙ ap (ranks_as g.T.Ranked.rank c.from_item-row.result) c.look.ensures
    ∙ swap_map k.item g.T.Ranked.rank k.item_rank g.met.T.StoredRow.same_rank_as_item xs c.args.index c.from_item-row.result c.args.item round_trip
