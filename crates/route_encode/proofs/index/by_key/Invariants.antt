use Rattle.std.proofs.Common.{◌≡◌}
use Rattle.std.specs.Prelude.{map}
use Rattle.spec_model.specs.Spec.{below}
use Rattle.route_encode.specs.Keys.{with_key}
use Rattle.route_encode.proofs.index.by_key.Given as goal

abbrev pub invariant-loop-k : goal.invariant-loop-k
invariant-loop-k l = l.rows.items ≡ map (with_key l.keys) (below l.k)
