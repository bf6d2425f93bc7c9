use Rattle.tgff_reader.specs.Looking.{table_at, row_at}
use Rattle.spec_join.proofs.TableLines.{least_of_mark}
use Rattle.spec_join.proofs.joiner.Joiner.mark_column_fault.Goals as goal

pub returns-in-Some : goal.returns-in-Some
returns-in-Some c =
    least_of_mark c.args.column c.in-Some.column (row_at (table_at c.args.self.now.tables c.args.table) c.args.row) _ c.mark_fault.result c.in-Some.is c.cell.ensures c.mark_fault.ensures
