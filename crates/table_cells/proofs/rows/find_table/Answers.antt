use Rattle.table_cells.proofs.Found.{table_by_place}
use Rattle.table_cells.proofs.rows.find_table.Goals as goal

pub returns : goal.returns
returns c = table_by_place c.args.tgff.now.tables c.args.name.now c.args.index c.table.result c.table.ensures.found c.table.ensures.one c.table.ensures.none
