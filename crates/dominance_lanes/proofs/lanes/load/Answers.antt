use Rattle.std.proofs.lemmas.Simd.{get_or-chunk}
use Rattle.dominance_lanes.proofs.lanes.load.Goals as goal

pub returns-clause-each : goal.returns-clause-each
returns-clause-each c i lt = get_or-chunk c.args.at 8 c.args.column.now i 0 lt
