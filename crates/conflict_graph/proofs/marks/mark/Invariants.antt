use Rattle.std.proofs.Common.{◌≡◌, ℕ, take, length}
use Rattle.trail_state.specs.Trail.{value_in}
use Rattle.conflict_graph.specs.Clauses.{false_signs}
use Rattle.conflict_graph.specs.Learning.{signs, either, currents}
use Rattle.conflict_graph.proofs.marks.mark.Given as goal

abbrev pub invariant-loop-t : goal.invariant-loop-t
invariant-loop-t l = record {
  added : (y : ℕ) → signs l.clause y ≡ either (signs l.fn.clause y) (false_signs (value_in (take l.place l.trail.entries)) (take l.t-index l.t-items) y);
  counted : l.count ≡ currents (length l.fn.clause) 0 l.trail.entries (signs l.clause);
}
