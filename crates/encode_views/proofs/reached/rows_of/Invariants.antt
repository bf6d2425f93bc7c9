use Rattle.std.proofs.Common.{◌≡◌, ◌+◌}
use Rattle.std.specs.Prelude.{map}
use Rattle.spec_model.specs.Spec.{below, bits_of}
use Rattle.encode_views.specs.Reached.{reached_row}
use Rattle.encode_views.proofs.reached.rows_of.Given as goal

abbrev pub invariant-loop-t : goal.invariant-loop-t
invariant-loop-t l = l.rows.items ≡ map (reached_row l.spec (bits_of l.design) l.m.0) (below (l.t + 1))
