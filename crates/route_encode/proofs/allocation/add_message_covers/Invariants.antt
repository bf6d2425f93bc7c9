use Rattle.std.specs.Prelude.{map}
use Rattle.spec_model.specs.Spec.{below}
use Rattle.encode_model.specs.Encoding.{cover_allocates}
use Rattle.route_encode.specs.Adding.{Adds}
use Rattle.route_encode.proofs.allocation.add_message_covers.Given as goal

abbrev pub invariant-loop-r : goal.invariant-loop-r
invariant-loop-r l = Adds l.initial.out l.out (map (cover_allocates l.index l.m) (below l.r))
