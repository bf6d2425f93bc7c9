use Rattle.std.proofs.Common.{◌≡◌, ◌≤◌, ◌<◌, ℕ, map, get_or, false, vec_items}
use Rattle.dominance_lanes.specs.Groups.{is_above_at}
use Rattle.dominance_lanes.proofs.scans.mark_rest.Given as goal

abbrev pub invariant-loop-k : goal.invariant-loop-k
invariant-loop-k l = record {
  here : (k : ℕ) → l.start ≤ k → k < l.k → get_or l.marks k false ≡ is_above_at (map vec_items l.columns) l.v k;
  before : (k : ℕ) → k < l.start → get_or l.marks k false ≡ get_or l.fn.marks k false;
}
