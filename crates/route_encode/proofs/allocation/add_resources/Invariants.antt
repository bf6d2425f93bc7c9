use Rattle.std.specs.Prelude.{map}
use Rattle.spec_model.specs.Spec.{below}
use Rattle.encode_model.specs.Encoding.{resource_has_use}
use Rattle.route_encode.specs.Adding.{Adds}
use Rattle.route_encode.proofs.allocation.add_resources.Given as goal

abbrev pub invariant-loop-r : goal.invariant-loop-r
invariant-loop-r l = Adds l.initial.out l.out (map (resource_has_use l.index) (below l.r))
