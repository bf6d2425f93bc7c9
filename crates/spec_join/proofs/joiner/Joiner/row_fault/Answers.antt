use Rattle.std.proofs.Common.{◌≡◌, true, sym, ◌∙◌}
use Rattle.tgff_reader.specs.Looking.{table_at, row_at}
use Rattle.spec_join.specs.Tables.{does_count}
use Rattle.spec_join.proofs.TableLines.{least_of_counted}
use Rattle.spec_join.proofs.joiner.Joiner.row_fault.Goals as goal

pub returns : goal.returns
returns c =
    let row = row_at (table_at c.args.self.now.tables c.args.table) c.args.row in
    let counts : does_count c.args.keys.now row ≡ true = sym c.does_count.ensures ∙ c.if-not-does_count.false in
    least_of_counted c.args.self.now c.args.keys.now row c.column_of.result c.column_of-2.result c.mark_column_fault-mark.result c.time_fault-time.result c.keys_fault-weights.result
    c.lower_of.result c.lower_of-2.result
    c.column_of.ensures c.column_of-2.ensures counts c.lower_of.ensures c.lower_of-2.ensures c.mark_column_fault-mark.ensures c.time_fault-time.ensures c.keys_fault-weights.ensures
