use Rattle.std.proofs.Common.{◌≡◌, ◌<◌, ◌≤◌, ℕ, cond, length, get_or}
use Rattle.evaluators.specs.Marks.{is_marked}
use Rattle.evaluators.proofs.chains.deepen.Given as goal

abbrev pub invariant-loop-t : goal.invariant-loop-t
invariant-loop-t l = record {
  long : length l.depths ≡ length l.fn.depths;
  done : (k : ℕ) → k < l.t → get_or l.depths k 0 ≡ cond (is_marked l.marks k) l.n (get_or l.fn.depths k 0);
  left : (k : ℕ) → l.t ≤ k → get_or l.depths k 0 ≡ get_or l.fn.depths k 0;
}
