use Rattle.std.proofs.Common.{◌≡◌, ◌-◌, ◌≤◌, take, reverse, ap, ◌∙◌, rules, arith}
use Rattle.books.specs.RankedLists.{rank_index}
use Rattle.std.specs.List.{insert}
use Rattle.std.proofs.lemmas.List.{length-take-le}
use Rattle.books.proofs.RotatedWrites.{insert_part}
use Rattle.strips.proofs.ReversedLists.{turned_insert}
use Rattle.strips.proofs.row.slices.insert_in.Goals as goal

pub returns : goal.returns
returns g c =
    let xs = c.args.rows.now in
    let p = c.rank_index-index.result in
    let le : p ≤ c.args.count = search (rules, length-take-le) in
    let e : p ≡ rank_index g.T.Ranked.rank (g.T.Ranked.rank c.args.row) (reverse (take c.args.count xs)) = search (rules, c.rank.ensures) in
    rw c.shift_in.ensures (
    ap reverse (insert_part xs c.args.count (c.args.count - p) c.args.row (omega arith) c.requires)
    ∙ turned_insert (take c.args.count xs) (c.args.count - p) p c.args.row (omega (arith, length-take-le c.args.count xs))
    ∙ ap (λ k. insert (reverse (take c.args.count xs)) k c.args.row) e)
