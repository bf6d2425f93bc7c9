use Rattle.std.proofs.Common.{◌≡◌, Some, subst}
use Rattle.tgff_reader.specs.Looking.{table_at}
use Rattle.table_cells.specs.Rows.{table_called}
use Rattle.spec_join.specs.Joining.{Joining}
use Rattle.spec_join.proofs.QuantityLines.{accepted_by}
use Rattle.spec_join.proofs.joiner.Joiner.quantity_table.Goals as goal

pub returns-clause-accepted : goal.returns-clause-accepted
returns-clause-accepted c =
    let s = c.args.self.now in
    let found : table_called s.tables c.args.name.now c.args.index ≡ Some (table_at s.tables c.in-Some.table)
    = subst (λ (j : Joining). table_called j.tables c.args.name.now c.args.index ≡ Some (table_at j.tables c.in-Some.table)) c.self.view_is c.in-Some.ensures.found in
    accepted_by s (table_called s.tables c.args.name.now c.args.index) (table_at s.tables c.in-Some.table) c.args.column c.args.rows c.messages_fault.result found c.in_default-messages_fault.is
    c.messages_fault.ensures
