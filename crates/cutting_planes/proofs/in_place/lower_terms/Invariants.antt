use Rattle.std.proofs.Common.{◌≡◌, ◌++◌, map, take, drop}
use Rattle.cutting_planes.specs.Lowered.{lowered}
use Rattle.cutting_planes.proofs.in_place.lower_terms.Given as goal

abbrev pub invariant-loop-t : goal.invariant-loop-t
invariant-loop-t l = l.terms ≡ map (lowered l.degree) (take l.t-index l.initial.terms) ++ drop l.t-index l.initial.terms
