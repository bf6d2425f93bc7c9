use Rattle.std.proofs.Common.{◌≡◌, take}
use Rattle.pb_rules.specs.Linear.{true_weight, bits_of}
use Rattle.pb_constraints.proofs.holds_under.Given as goal

abbrev pub invariant-loop-t : goal.invariant-loop-t
invariant-loop-t l = l.sum ≡ true_weight (bits_of l.values) (take l.t-index l.terms)
