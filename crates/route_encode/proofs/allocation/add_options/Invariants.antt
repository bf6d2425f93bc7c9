use Rattle.std.specs.Prelude.{map}
use Rattle.spec_model.specs.Spec.{below}
use Rattle.encode_model.specs.Encoding.{option_allocates}
use Rattle.route_encode.specs.Adding.{Adds}
use Rattle.route_encode.proofs.allocation.add_options.Given as goal

abbrev pub invariant-loop-o : goal.invariant-loop-o
invariant-loop-o l = Adds l.initial.out l.out (map (option_allocates l.index) (below l.o))
