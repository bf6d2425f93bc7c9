use Rattle.tgff_reader.specs.Looking.{table_at}
use Rattle.table_cells.proofs.Found.{row_by_place}
use Rattle.table_cells.proofs.rows.find_row.Goals as goal

pub returns-clause-found : goal.returns-clause-found
returns-clause-found c = row_by_place (table_at c.args.tgff.now.tables c.args.table) c.args.from c.args.kind c.find_row.result c.find_row.ensures.found c.find_row.ensures.none
