use Rattle.std.proofs.Common.{◌≡◌, ℕ, ◌<◌, ◌≤◌, length, get_or}
use Rattle.pb_constraints.specs.declared.ConId.{ConId}
use Rattle.ordered_solver.specs.Engines.{moved}
use Rattle.ordered_solver.proofs.keeping.rename.Given as goal

abbrev pub invariant-loop-i : goal.invariant-loop-i
invariant-loop-i l = record {
  same_length : length l.ids.items ≡ length l.fn.ids.items;
  done : (k : ℕ) (d : ConId) → k < l.i → get_or l.ids.items k d ≡ moved l.moves (get_or l.fn.ids.items k d);
  rest : (k : ℕ) (d : ConId) → l.i ≤ k → get_or l.ids.items k d ≡ get_or l.fn.ids.items k d;
}
