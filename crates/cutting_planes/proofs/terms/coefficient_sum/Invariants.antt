use Rattle.std.proofs.Common.{◌≡◌, take}
use Rattle.pb_rules.specs.Linear.{total}
use Rattle.cutting_planes.proofs.terms.coefficient_sum.Given as goal

abbrev pub invariant-loop-t : goal.invariant-loop-t
invariant-loop-t l = l.sum ≡ total (take l.t-index l.terms)
