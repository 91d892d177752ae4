use Rattle.std.proofs.Common.{sym, ◌∙◌, arith, rules, ltb-false}
use Rattle.sheets.proofs.RowApart.{apart}
use Rattle.sheets.proofs.PairRuleHolds.{pair_rule}
use Rattle.sheets.proofs.FirstWrongByte.{cells_by_format}
use Rattle.sheets.proofs.ReadFromOwnBytes.{row_alone, cell_alone}
use Rattle.sheets.proofs.row.read_form.Goals as goal

pub returns-in-len2-up : goal.returns-in-len2-up
returns-in-len2-up c = record {
  answer = c.read_lettered.ensures ∙ sym (apart c.args.row.now (omega (arith, ltb-false)));
  rows = row_alone;
  cells = cell_alone;
  pairs = pair_rule;
  places = cells_by_format;
}

pub returns-in_default : goal.returns-in_default
returns-in_default c = record { answer = search rules; rows = row_alone; cells = cell_alone; pairs = pair_rule; places = cells_by_format }
