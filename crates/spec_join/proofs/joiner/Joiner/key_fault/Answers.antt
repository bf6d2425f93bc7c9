use Rattle.std.proofs.Common.{◌≡◌, false, ap, sym, ◌∙◌}
use Rattle.arch_reader.specs.Words.{is_table_key}
use Rattle.tgff_reader.specs.Looking.{table_at, row_at}
use Rattle.table_cells.specs.Cells.{cell_of}
use Rattle.spec_join.specs.Tables.{weight_taking}
use Rattle.spec_join.proofs.TableLines.{least_of_cell, least_of_key}
use Rattle.spec_join.proofs.joiner.Joiner.key_fault.Goals as goal

pub returns : goal.returns
returns c =
    let s = c.args.self.now in
    let key = c.args.key.now in
    let row = row_at (table_at s.tables c.args.table) c.args.row in
    let other : is_table_key key.key ≡ false = ap is_table_key (sym c.list.ensures) ∙ sym c.is_table_key.ensures ∙ c.if-is_table_key.false in
    let taking : c.weight_taking.result ≡ weight_taking s key.key = c.weight_taking.ensures ∙ ap (weight_taking s) c.list-2.ensures in
    least_of_key s row key c.cell_fault.result other (least_of_cell c.weight_taking.result (weight_taking s key.key) (cell_of row key.column) _ c.cell_fault.result taking c.cell.ensures
    c.cell_fault.ensures)
