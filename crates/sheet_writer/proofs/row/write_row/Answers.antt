use Rattle.std.proofs.Common.{◌≡◌, true, vec_items, sym, ◌∙◌, rules}
use Rattle.std.specs.List.{list_all}
use Rattle.sheets.specs.FormBounds.{form_in_bounds}
use Rattle.sheet_writer.specs.CellTexts.{cells, has_room}
use Rattle.sheet_writer.specs.WrittenRows.{row_written}
use Rattle.sheet_writer.proofs.RowReadsBack.{row_back, fits_by_cells}
use Rattle.sheet_writer.proofs.row.write_row.Goals as goal

pub returns-clause-back : goal.returns-clause-back
returns-clause-back c =
    let answer : vec_items c.in_ok-packed.field-0 ≡ row_written c.args.form = search rules in
    let room : list_all has_room (cells c.args.form) ≡ true = search rules in
    let fit : form_in_bounds c.args.form ≡ true = sym (fits_by_cells c.args.form) ∙ room in
    rw answer (row_back c.args.form fit)
