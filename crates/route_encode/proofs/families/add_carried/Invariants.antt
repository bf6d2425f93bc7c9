use Rattle.std.specs.List.{flat_map}
use Rattle.spec_model.specs.Spec.{below}
use Rattle.encode_model.specs.Encoding.{arc_carries}
use Rattle.route_encode.specs.Adding.{Adds}
use Rattle.route_encode.proofs.families.add_carried.Given as goal

abbrev pub invariant-loop-a : goal.invariant-loop-a
invariant-loop-a l = Adds l.initial.out l.out (flat_map (arc_carries l.index l.m) (below l.a))
