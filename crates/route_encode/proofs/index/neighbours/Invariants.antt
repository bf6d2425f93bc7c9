use Rattle.std.proofs.Common.{◌≡◌}
use Rattle.std.specs.Prelude.{map}
use Rattle.spec_model.specs.Spec.{below}
use Rattle.route_encode.specs.Keys.{neighbours_by}
use Rattle.route_encode.proofs.index.neighbours.Given as goal

abbrev pub invariant-loop-q : goal.invariant-loop-q
invariant-loop-q l = l.rows.items ≡ map (neighbours_by l.tails l.heads l.n) (below l.q)
