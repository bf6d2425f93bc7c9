use Rattle.std.proofs.Common.{◌≡◌, ◌++◌, take}
use Rattle.encode_views.specs.Reached.{bits_at}
use Rattle.encode_views.proofs.models.add_bits.Given as goal

abbrev pub invariant-loop-row : goal.invariant-loop-row
invariant-loop-row l = l.model.items ≡ l.fn.model.items ++ bits_at (take l.row-index l.rows) l.r
