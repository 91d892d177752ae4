use Rattle.std.proofs.Common.{◌-◌, take, reverse, ap, ◌∙◌, arith}
use Rattle.std.proofs.lemmas.List.{length-take-le}
use Rattle.books.proofs.RotatedWrites.{remove_part}
use Rattle.strips.proofs.ReversedLists.{turned_remove}
use Rattle.strips.proofs.row.slices.remove_in.Goals as goal

pub returns : goal.returns
returns g c =
    let xs = c.args.rows.now in
    let j = c.args.count - 1 - c.args.index in
    rw c.close_up.ensures (
    ap reverse (remove_part xs c.args.count j (omega (arith, c.requires.there)) c.requires.within)
    ∙ turned_remove (take c.args.count xs) j c.args.index (omega (arith, c.requires.there, length-take-le c.args.count xs)))
