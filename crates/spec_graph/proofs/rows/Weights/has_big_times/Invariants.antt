use Rattle.std.proofs.Common.{ℕ, ◌*◌, ◌<◌, ◌^◌, get_or}
use Rattle.spec_graph.proofs.rows.Weights.has_big_times.Given as goal

abbrev pub invariant-loop-weight : goal.invariant-loop-weight
invariant-loop-weight l = (j : ℕ) → j < l.weight-index → 2 ^ 40 < get_or l.weight-items j 0 * l.quantity → ⊥
