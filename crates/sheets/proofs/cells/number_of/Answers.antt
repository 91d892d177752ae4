use Rattle.std.proofs.Common.{◌≡◌, ◌+◌, ◌*◌, take, arith}
use Rattle.std.proofs.lemmas.Str.Parse.{digit_at, digits_value-take-le}
use Rattle.std.specs.Str.Parse.{digits_value}
use Rattle.sheets.proofs.DigitValues.{short, value_step}
use Rattle.sheets.proofs.cells.number_of.Goals as goal

pub overflow_mul-number : goal.overflow_mul-number
overflow_mul-number c =
    let ds = c.args.digits.now in
    omega (arith, c.loop-b.invariant, digits_value-take-le 10 ds c.loop-b.b-index (omega arith), short ds 12 c.requires.all c.requires.few)

pub overflow_sub-b : goal.overflow_sub-b
overflow_sub-b c = (digit_at c.args.digits.now c.loop-b.b-index c.requires.all c.loop-b-test.true).0

-- the next digit
next : (c : goal.After-from)
    → c.loop-b.number * 10 + c.from.result ≡ digits_value 10 (take (c.loop-b.b-index + 1) c.args.digits.now)
next c = omega (arith, c.from.ensures, c.loop-b.invariant, value_step c.args.digits.now c.loop-b.b-index c.requires.all c.loop-b-test.true)

pub overflow_add-number : goal.overflow_add-number
overflow_add-number c =
    let ds = c.args.digits.now in
    omega (arith, next c, digits_value-take-le 10 ds (c.loop-b.b-index + 1) (omega arith), short ds 12 c.requires.all c.requires.few)

pub loop-b-preserved : goal.loop-b-preserved
loop-b-preserved c = next c
