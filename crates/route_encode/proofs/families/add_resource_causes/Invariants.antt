use Rattle.std.specs.Prelude.{map}
use Rattle.spec_model.specs.Spec.{below}
use Rattle.encode_model.specs.Encoding.{has_cause}
use Rattle.route_encode.specs.Adding.{Adds}
use Rattle.route_encode.proofs.families.add_resource_causes.Given as goal

abbrev pub invariant-loop-t : goal.invariant-loop-t
invariant-loop-t l = Adds l.initial.out l.out (map (has_cause l.index l.m l.q) (below l.t))
