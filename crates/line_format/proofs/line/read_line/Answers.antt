use Rattle.std.proofs.Common.{◌+◌, length}
use Rattle.line_format.specs.LineCells.{blank_cells}
use Rattle.line_format.proofs.LinesFitRows.{blank_fit, words_fit, form_fits}
use Rattle.line_format.proofs.line.read_line.Goals as goal

pub returns-clause-form_in_bounds : goal.returns-clause-form_in_bounds
returns-clause-form_in_bounds c =
    let line = c.args.line.now in
    let letter = c.in_ok-letter.letter in
    rw c.form.ensures (form_fits letter c.in_ok-cells.cells.values
    (words_fit (length line) letter line (c.in-Some.first.start + c.in-Some.first.size) blank_cells c.in_ok-cells.cells.values blank_fit c.in_ok-cells.ensures.ok))
