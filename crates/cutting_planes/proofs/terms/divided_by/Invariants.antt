use Rattle.std.proofs.Common.{◌≡◌, take, map}
use Rattle.pb_rules.specs.CuttingPlanes.{divided}
use Rattle.cutting_planes.proofs.terms.divided_by.Given as goal

abbrev pub invariant-loop-t : goal.invariant-loop-t
invariant-loop-t l = l.out.items ≡ map (divided l.divisor) (take l.t-index l.terms)
