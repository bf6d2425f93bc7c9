use Rattle.std.specs.Prelude.{map}
use Rattle.spec_model.specs.Spec.{below}
use Rattle.encode_model.specs.Encoding.{link_has_use}
use Rattle.route_encode.specs.Adding.{Adds}
use Rattle.route_encode.proofs.allocation.add_links.Given as goal

abbrev pub invariant-loop-l : goal.invariant-loop-l
invariant-loop-l l = Adds l.initial.out l.out (map (link_has_use l.index) (below l.l))
