use Rattle.std.specs.List.{flat_map}
use Rattle.spec_model.specs.Spec.{below}
use Rattle.encode_model.specs.Encoding.{one_arc_in}
use Rattle.route_encode.specs.Adding.{Adds}
use Rattle.route_encode.proofs.families.add_arcs_in.Given as goal

abbrev pub invariant-loop-r : goal.invariant-loop-r
invariant-loop-r l = Adds l.initial.out l.out (flat_map (one_arc_in l.index l.m) (below l.r))
