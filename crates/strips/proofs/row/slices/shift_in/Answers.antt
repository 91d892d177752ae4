use Rattle.books.proofs.RotatedWrites.{shifted}
use Rattle.strips.proofs.row.slices.shift_in.Goals as goal

pub returns : goal.returns
returns g c = rw c.rotate_right.ensures.after (shifted c.args.part.now c.args.row c.requires)
