use Rattle.std.proofs.Common.{◌≡◌, length, take}
use Rattle.spec_model.specs.Spec.{design_variables}
use Rattle.encode_views.proofs.designs.design_of.Given as goal

abbrev pub invariant-loop-v : goal.invariant-loop-v
invariant-loop-v l = record { bits : length l.design ≡ design_variables l.spec; same : take l.v l.design ≡ take l.v l.model }
