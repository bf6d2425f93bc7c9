use Rattle.std.proofs.Common.{take}
use Rattle.conflict_graph.specs.Learned.{IsLevelBelow}
use Rattle.conflict_graph.proofs.clauses.level_below.Given as goal

abbrev pub invariant-loop-t : goal.invariant-loop-t
invariant-loop-t l = IsLevelBelow l.trail.entries (take l.t-index l.t-items) l.back
