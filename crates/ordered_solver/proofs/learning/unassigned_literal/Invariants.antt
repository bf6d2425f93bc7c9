use Rattle.std.proofs.Common.{◌≢◌, ℕ, ◌<◌, None, get_or}
use Rattle.pb_rules.specs.declared.Term.{Term}
use Rattle.trail_state.specs.Trail.{value_in}
use Rattle.ordered_solver.proofs.learning.unassigned_literal.Given as goal

abbrev pub invariant-loop-t : goal.invariant-loop-t
invariant-loop-t l = (j : ℕ) (d : Term) → j < l.t-index → value_in l.trail.entries (get_or l.terms j d).lit.var ≢ None
