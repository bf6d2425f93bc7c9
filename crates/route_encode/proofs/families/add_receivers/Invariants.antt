use Rattle.std.proofs.Common.{take}
use Rattle.std.specs.Prelude.{map}
use Rattle.std.specs.List.{flat_map}
use Rattle.spec_graph.specs.Lists.{task_number}
use Rattle.encode_model.specs.Encoding.{receiver_covered}
use Rattle.route_encode.specs.Adding.{Adds}
use Rattle.route_encode.proofs.families.add_receivers.Given as goal

abbrev pub invariant-loop-w : goal.invariant-loop-w
invariant-loop-w l = Adds l.initial.out l.out (flat_map (receiver_covered l.index l.m) (map task_number (take l.w-index l.receivers)))
