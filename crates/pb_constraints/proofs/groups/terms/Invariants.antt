use Rattle.std.proofs.Common.{◌≡◌, take, map}
use Rattle.pb_constraints.specs.Groups.{term_of}
use Rattle.pb_constraints.proofs.groups.terms.Given as goal

abbrev pub invariant-loop-g : goal.invariant-loop-g
invariant-loop-g l = l.terms.items ≡ map term_of (take l.g-index l.groups)
