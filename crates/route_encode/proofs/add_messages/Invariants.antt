use Rattle.std.specs.List.{flat_map}
use Rattle.spec_model.specs.Spec.{below}
use Rattle.encode_model.specs.Encoding.{message_part}
use Rattle.route_encode.specs.Adding.{Adds}
use Rattle.route_encode.proofs.add_messages.Given as goal

abbrev pub invariant-loop-m : goal.invariant-loop-m
invariant-loop-m l = Adds l.initial.out l.out (flat_map (message_part l.index) (below l.m))
