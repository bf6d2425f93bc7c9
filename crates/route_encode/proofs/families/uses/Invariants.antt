use Rattle.std.proofs.Common.{◌≡◌, take}
use Rattle.std.specs.Prelude.{map}
use Rattle.spec_model.specs.Spec.{arc_var}
use Rattle.route_encode.proofs.families.uses.Given as goal

abbrev pub invariant-loop-a : goal.invariant-loop-a
invariant-loop-a l = l.uses.items ≡ map (arc_var l.index l.m) (take l.a-index l.arcs)
