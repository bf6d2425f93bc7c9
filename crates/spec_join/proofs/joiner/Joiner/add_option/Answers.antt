use Rattle.tgff_reader.specs.Looking.{table_at, row_at}
use Rattle.spec_join.proofs.Making.{chosen_unbroken}
use Rattle.spec_join.proofs.joiner.Joiner.add_option.Goals as goal

pub add_from-requires-clause-unbroken : goal.add_from-requires-clause-unbroken
add_from-requires-clause-unbroken c =
    let table = table_at c.args.self.now.tables c.args.table in
    chosen_unbroken c.args.self.now table c.args.keys.now c.args.t (row_at table c.in-Some.row) c.in-Some.ensures.found_is c.requires.unbroken
