use Rattle.std.proofs.Common.{◌+◌, ◌*◌, ◌^◌, ◌<◌, arith}
use Rattle.sheets.proofs.DigitValues.{short}
use Rattle.sheets.proofs.cells.read_price.Goals as goal

pub overflow_mul-result : goal.overflow_mul-result
overflow_mul-result c =
    let whole = c.digits_of-whole in
    omega (arith, c.number_of.ensures, short whole.result.now 6 whole.ensures.all whole.ensures.few)

-- six digits and two write less than eight do
under : (c : goal.After-number_of-2) → c.number_of.result * 100 + c.number_of-2.result < 10 ^ 8
under c =
    let whole = c.digits_of-whole in
    let cents = c.digits_of-cents in
    omega (
      arith,
      c.number_of.ensures,
      short whole.result.now 6 whole.ensures.all whole.ensures.few,
      c.number_of-2.ensures,
      short cents.result.now 2 cents.ensures.all cents.ensures.few,
    )

pub overflow_add-result-2 : goal.overflow_add-result-2
overflow_add-result-2 c = omega (arith, under c)

pub overflow_cast-result-2 : goal.overflow_cast-result-2
overflow_cast-result-2 c = omega (arith, under c)
