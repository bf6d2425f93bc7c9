use Rattle.std.proofs.Common.{◌≤◌, length}
use Rattle.conflict_graph.specs.Learning.{signs, Learning}
use Rattle.conflict_graph.proofs.resolution.take_apart.Given as goal

abbrev pub invariant-loop-place : goal.invariant-loop-place
invariant-loop-place l = record {
  place : l.place ≤ length l.trail.entries;
  learning : Learning l.store l.trail.entries l.trail.variables l.place (signs l.clause) l.count l.ops.items;
}

abbrev pub decreases-loop-place : goal.decreases-loop-place
decreases-loop-place l = l.place
