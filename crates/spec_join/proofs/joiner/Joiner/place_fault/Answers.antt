use Rattle.std.proofs.Common.{◌≡◌, ap, ◌∙◌}
use Rattle.tgff_reader.specs.Looking.{table_at}
use Rattle.table_cells.specs.Rows.{first_cell_of}
use Rattle.spec_join.specs.Joining.{Joining}
use Rattle.spec_join.specs.Tables.{weight_taking}
use Rattle.spec_join.proofs.TableLines.{least_of_cell}
use Rattle.spec_join.proofs.joiner.Joiner.place_fault.Goals as goal

pub returns : goal.returns
returns c =
    let s = c.args.self.now in
    let place = c.args.place.now in
    let taking : c.weight_taking.result ≡ weight_taking s place.key = c.weight_taking.ensures ∙ ap (weight_taking s) c.list.ensures in
    let cell = c.first_cell-cell.ensures ∙ ap (λ (j : Joining). first_cell_of (table_at j.tables c.args.table) place.column) c.self.view_is in
    least_of_cell c.weight_taking.result (weight_taking s place.key) (first_cell_of (table_at s.tables c.args.table) place.column) _ c.cell_fault.result taking cell c.cell_fault.ensures
