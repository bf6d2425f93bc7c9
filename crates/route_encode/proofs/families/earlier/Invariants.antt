use Rattle.std.proofs.Common.{◌≡◌, take}
use Rattle.std.specs.Prelude.{map}
use Rattle.encode_model.specs.Encoding.{step_at}
use Rattle.route_encode.proofs.families.earlier.Given as goal

abbrev pub invariant-loop-p : goal.invariant-loop-p
invariant-loop-p l = l.steps.items ≡ map (step_at l.index l.m l.t) (take l.p-index l.places)
