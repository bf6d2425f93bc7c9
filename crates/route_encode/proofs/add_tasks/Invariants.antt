use Rattle.std.specs.List.{flat_map}
use Rattle.spec_model.specs.Spec.{below}
use Rattle.encode_model.specs.Encoding.{one_option}
use Rattle.route_encode.specs.Adding.{Adds}
use Rattle.route_encode.proofs.add_tasks.Given as goal

abbrev pub invariant-loop-t : goal.invariant-loop-t
invariant-loop-t l = Adds l.initial.out l.out (flat_map (one_option l.index) (below l.t))
