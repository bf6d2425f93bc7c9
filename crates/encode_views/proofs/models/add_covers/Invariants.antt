use Rattle.std.proofs.Common.{◌≡◌, ◌++◌}
use Rattle.std.specs.Prelude.{map}
use Rattle.spec_model.specs.Spec.{below}
use Rattle.encode_views.specs.Reached.{is_in}
use Rattle.encode_views.proofs.models.add_covers.Given as goal

abbrev pub invariant-loop-r : goal.invariant-loop-r
invariant-loop-r l = l.model.items ≡ l.fn.model.items ++ map (is_in l.rows) (below l.r)
