use Rattle.std.proofs.Common.{◌≡◌}
use Rattle.std.specs.List.{flat_map}
use Rattle.spec_model.specs.Spec.{below}
use Rattle.spec_make.specs.Mesh.{ends_at}
use Rattle.spec_make.proofs.mesh.all_ends.Given as goal

abbrev pub invariant-loop-i : goal.invariant-loop-i
invariant-loop-i l = l.all.items ≡ flat_map (ends_at l.side) (below l.i)
