use Rattle.std.proofs.Common.{◌≡◌, ◌*◌, ◌^◌, take, pos, neg_ℤ, ◌≤ℤ◌}
use Rattle.pb_constraints.specs.SignedSums.{negated_sum}
use Rattle.pb_constraints.proofs.parts.negated.Given as goal

abbrev pub invariant-loop-p : goal.invariant-loop-p
invariant-loop-p l =
    (l.sum ≡ negated_sum (take l.p-index l.parts)) × (neg_ℤ (pos (2 ^ 63 * l.p-index)) ≤ℤ l.sum) × (l.sum ≤ℤ pos (2 ^ 63 * l.p-index))
