use Rattle.std.proofs.Common.{◌≡◌, take}
use Rattle.route_encode.proofs.literals.terms.Given as goal

abbrev pub invariant-loop-l : goal.invariant-loop-l
invariant-loop-l l = l.terms.items ≡ take l.l-index l.literals
