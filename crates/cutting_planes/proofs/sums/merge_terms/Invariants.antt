use Rattle.std.proofs.Common.{◌≡◌, ◌≤◌, ◌+◌, ◌-◌, ◌++◌, drop, length}
use Rattle.pb_rules.specs.CuttingPlanes.{merge}
use Rattle.cutting_planes.proofs.sums.merge_terms.Given as goal

abbrev pub invariant-loop-i : goal.invariant-loop-i
invariant-loop-i l = record {
  i : l.i ≤ length l.xs;
  j : l.j ≤ length l.ys;
  terms : (merge l.xs l.ys).terms ≡ l.out.terms.items ++ (merge (drop l.i l.xs) (drop l.j l.ys)).terms;
  cancelled : (merge l.xs l.ys).cancelled ≡ l.out.cancelled + (merge (drop l.i l.xs) (drop l.j l.ys)).cancelled;
}

abbrev pub decreases-loop-i : goal.decreases-loop-i
decreases-loop-i l = (length l.xs - l.i) + (length l.ys - l.j)
