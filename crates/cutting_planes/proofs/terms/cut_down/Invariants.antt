use Rattle.std.proofs.Common.{◌≡◌, take}
use Rattle.pb_rules.specs.CuttingPlanes.{cut}
use Rattle.cutting_planes.proofs.terms.cut_down.Given as goal

abbrev pub invariant-loop-t : goal.invariant-loop-t
invariant-loop-t l = l.out.items ≡ cut l.degree (take l.t-index l.terms)
