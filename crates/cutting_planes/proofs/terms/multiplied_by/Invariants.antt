use Rattle.std.proofs.Common.{◌≡◌, take, map}
use Rattle.pb_rules.specs.CuttingPlanes.{multiplied}
use Rattle.cutting_planes.proofs.terms.multiplied_by.Given as goal

abbrev pub invariant-loop-t : goal.invariant-loop-t
invariant-loop-t l = l.out.items ≡ map (multiplied l.factor) (take l.t-index l.terms)
