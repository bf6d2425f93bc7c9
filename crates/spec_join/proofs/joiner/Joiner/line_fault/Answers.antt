use Rattle.tgff_reader.specs.Looking.{table_at}
use Rattle.spec_join.proofs.TableLines.{least_of_line}
use Rattle.spec_join.proofs.joiner.Joiner.line_fault.Goals as goal

pub returns : goal.returns
returns c =
    least_of_line c.args.self.now (table_at c.args.self.now.tables c.args.table) c.args.resource.now c.args.keys.now c.args.places.now c.places_fault.result c.tasks_fault.result
    c.lower_of-cells.result c.options_fault.result c.lower_of.result
    c.lower_of-cells.ensures c.lower_of.ensures c.places_fault.ensures c.tasks_fault.ensures c.options_fault.ensures
