use Rattle.std.proofs.Common.{◌≡◌, ◌*◌, ◌<◌, ℕ, map, get_or, false, vec_items}
use Rattle.dominance_lanes.specs.Groups.{is_above_at}
use Rattle.dominance_lanes.proofs.scans.mark_groups.Given as goal

abbrev pub invariant-loop-group : goal.invariant-loop-group
invariant-loop-group l = (k : ℕ) → k < l.group * 8 → get_or l.marks k false ≡ is_above_at (map vec_items l.columns) l.v k
