use Rattle.std.proofs.Common.{arith}
use Rattle.tgff_reader.specs.Looking.{table_at, row_at}
use Rattle.spec_join.specs.Tables.{KeyBreaks}
use Rattle.spec_join.proofs.Lowest.{least_in_more, least_in_all}
use Rattle.spec_join.proofs.joiner.Joiner.keys_fault.Goals as goal

pub loop-key-preserved : goal.loop-key-preserved
loop-key-preserved c =
    least_in_more (KeyBreaks c.args.self.now (row_at (table_at c.args.self.now.tables c.args.table) c.args.row)) c.args.keys.now c.loop-key.key-index c.key-item.result c.loop-key.fault
    c.key_fault.result c.lower_of-fault.result
    (omega arith) c.key-item.is c.lower_of-fault.ensures c.loop-key.invariant c.key_fault.ensures

pub returns : goal.returns
returns c =
    least_in_all (KeyBreaks c.args.self.now (row_at (table_at c.args.self.now.tables c.args.table) c.args.row)) c.args.keys.now c.loop-key.key-index c.loop-key.fault (omega arith) c.loop-key.invariant
