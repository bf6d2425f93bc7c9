use Rattle.std.proofs.Common.{refl}
use Rattle.tgff_reader.specs.Looking.{table_at, row_at}
use Rattle.table_cells.specs.Cells.{cell_of}
use Rattle.spec_join.specs.Quantities.{message_row, quantity_taking, QuantityBreaks}
use Rattle.spec_join.proofs.Lowest.{least_of_row}
use Rattle.spec_join.proofs.TableLines.{least_of_cell}
use Rattle.spec_join.proofs.joiner.Joiner.message_fault.Goals as goal

pub returns-in-Some : goal.returns-in-Some
returns-in-Some c =
    let table = table_at c.args.self.now.tables c.args.table in
    let row = row_at table c.in-Some.row in
    least_of_row (QuantityBreaks c.args.column) (message_row c.args.self.now table c.args.rows c.args.m) row c.cell_fault.result c.in-Some.ensures.found_is
    (least_of_cell quantity_taking quantity_taking (cell_of row c.args.column) _ c.cell_fault.result refl c.cell.ensures c.cell_fault.ensures)
