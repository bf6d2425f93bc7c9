use Rattle.std.proofs.Common.{◌≡◌, ℕ, ◌+◌, ◌<◌, ◌≤◌, ◌⊎◌, get_or, eqb, false}
use Rattle.dominance_lanes.proofs.lanes.mark_above_in.Given as goal

abbrev pub invariant-loop-i : goal.invariant-loop-i
invariant-loop-i l = record {
  here : (i : ℕ) → i < l.i → get_or l.marks (l.at + i) false ≡ eqb (get_or l.lanes i 0) 0;
  others : (k : ℕ) → (k < l.at) ⊎ (l.at + 8 ≤ k) → get_or l.marks k false ≡ get_or l.fn.marks k false;
}
