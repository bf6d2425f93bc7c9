use Rattle.std.proofs.Common.{◌≡◌}
use Rattle.std.specs.Prelude.{map}
use Rattle.spec_model.specs.Spec.{below, base}
use Rattle.route_encode.proofs.index.bases.Given as goal

abbrev pub invariant-loop-m : goal.invariant-loop-m
invariant-loop-m l = record { list : l.bases.items ≡ map (base l.spec) (below l.m); at : l.at ≡ base l.spec l.m }
