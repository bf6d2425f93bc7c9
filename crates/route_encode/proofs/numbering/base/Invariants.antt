use Rattle.std.proofs.Common.{◌≡◌}
use Rattle.spec_model.specs.Spec.{base}
use Rattle.route_encode.proofs.numbering.base.Given as goal

abbrev pub invariant-loop-i : goal.invariant-loop-i
invariant-loop-i l = l.at ≡ base l.spec l.i
