use Rattle.std.proofs.Common.{◌≡◌, ◌++◌, map, take, drop}
use Rattle.pb_rules.specs.CuttingPlanes.{divided}
use Rattle.cutting_planes.proofs.in_place.divide_terms.Given as goal

abbrev pub invariant-loop-t : goal.invariant-loop-t
invariant-loop-t l = l.terms ≡ map (divided l.divisor) (take l.t-index l.initial.terms) ++ drop l.t-index l.initial.terms
