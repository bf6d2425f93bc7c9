use Rattle.std.proofs.Common.{◌≡◌, ℕ, true, ap, ◌∙◌}
use Rattle.arch_reader.specs.Seen.{scale_or_0}
use Rattle.tgff_reader.specs.Looking.{table_at, row_at}
use Rattle.table_cells.specs.declared.cells.Taking.{Taking}
use Rattle.spec_join.specs.Joining.{Joining}
use Rattle.spec_join.proofs.TableLines.{least_of_time}
use Rattle.spec_join.proofs.joiner.Joiner.time_fault.Goals as goal

abbrev at_that : ℕ → Taking
at_that scale = record { scale = scale; cut = true }

pub returns-in-Some : goal.returns-in-Some
returns-in-Some c =
    let clock : c.scale_or_0.result ≡ scale_or_0 c.args.self.now.clock = c.scale_or_0.ensures ∙ ap (λ (s : Joining). scale_or_0 s.clock) c.self.view_is in
    least_of_time c.args.self.now c.args.column c.in-Some.column (row_at (table_at c.args.self.now.tables c.args.table) c.args.row) (at_that c.scale_or_0.result) _ c.cell_fault.result c.in-Some.is
    (ap at_that clock) c.cell.ensures c.cell_fault.ensures
