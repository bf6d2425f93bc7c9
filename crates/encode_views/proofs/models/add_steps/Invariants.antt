use Rattle.std.proofs.Common.{◌≡◌, ◌++◌}
use Rattle.std.specs.List.{flat_map}
use Rattle.spec_model.specs.Spec.{below}
use Rattle.encode_views.specs.Reached.{bits_at}
use Rattle.encode_views.proofs.models.add_steps.Given as goal

abbrev pub invariant-loop-r : goal.invariant-loop-r
invariant-loop-r l = l.model.items ≡ l.fn.model.items ++ flat_map (bits_at l.rows) (below l.r)
