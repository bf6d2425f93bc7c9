use Rattle.std.specs.Prelude.{map}
use Rattle.spec_model.specs.Spec.{below}
use Rattle.encode_model.specs.Encoding.{arc_allocates}
use Rattle.route_encode.specs.Adding.{Adds}
use Rattle.route_encode.proofs.allocation.add_message_arcs.Given as goal

abbrev pub invariant-loop-a : goal.invariant-loop-a
invariant-loop-a l = Adds l.initial.out l.out (map (arc_allocates l.index l.m) (below l.a))
