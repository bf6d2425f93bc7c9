use Rattle.std.proofs.Common.{◌≡◌, length}
use Rattle.spec_model.specs.Spec.{design_variables}
use Rattle.offer_tests.proofs.measures.design_with.Given as goal

abbrev pub invariant-loop-v : goal.invariant-loop-v
invariant-loop-v g l = length l.design ≡ design_variables l.spec
