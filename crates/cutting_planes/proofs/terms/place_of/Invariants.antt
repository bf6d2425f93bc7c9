use Rattle.std.proofs.Common.{ℕ, ◌≢◌, ◌<◌, slice_index_or}
use Rattle.pb_rules.specs.declared.Term.{Term}
use Rattle.cutting_planes.proofs.terms.place_of.Given as goal

abbrev pub invariant-loop-i : goal.invariant-loop-i
invariant-loop-i l = (k : ℕ) (d : Term) → k < l.i → (slice_index_or l.terms k d).lit.var ≢ l.var
