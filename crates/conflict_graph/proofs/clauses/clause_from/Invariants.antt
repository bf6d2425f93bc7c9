use Rattle.std.proofs.Common.{◌≡◌}
use Rattle.conflict_graph.specs.Clauses.{clause_row}
use Rattle.conflict_graph.specs.Learning.{signs}
use Rattle.conflict_graph.proofs.clauses.clause_from.Given as goal

abbrev pub invariant-loop-x : goal.invariant-loop-x
invariant-loop-x l = l.terms.items ≡ clause_row l.x 0 (signs l.clause)
