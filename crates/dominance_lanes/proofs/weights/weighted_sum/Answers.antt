use Rattle.std.proofs.Common.{arith, get_or, ◌≤◌}
use Rattle.std.proofs.lemmas.List.Elements.{All-get_or}
use Rattle.dominance_lanes.proofs.WeightedSums.{one_step, left_fits, when_one, when_zero}
use Rattle.dominance_lanes.proofs.weights.weighted_sum.Goals as goal
use Rattle.dominance_lanes.proofs.weights.weighted_sum.Goals.{then-bits-k-eq1, else-bits-k-eq1}

pub overflow_add-total : goal.overflow_add-total
overflow_add-total c = left_fits _ _ _ _ _ c.requires.bits c.requires.small (one_step c.loop-k.total (get_or c.args.weights.now c.loop-k.k 0) c.loop-k.k c.args.bits.now c.args.weights.now
    c.requires.same c.loop-k-test.true (when_one _ _ c.if-bits-k-eq1.true) c.loop-k.invariant)

pub loop-k-preserved : goal.loop-k-preserved
loop-k-preserved c = elim c.if-bits-k-eq1.branch [
  | then-bits-k-eq1 w ↦ omega (
    arith,
    w.total-is,
    one_step c.loop-k.total (get_or c.args.weights.now c.loop-k.k 0) c.loop-k.k c.args.bits.now c.args.weights.now c.requires.same c.loop-k-test.true
        (when_one _ _ w.if-bits-k-eq1.true) c.loop-k.invariant,
  )
  | else-bits-k-eq1 w ↦ omega (
    arith,
    w.total-is,
    one_step c.loop-k.total 0 c.loop-k.k c.args.bits.now c.args.weights.now c.requires.same c.loop-k-test.true
        (when_zero _ _ (All-get_or (λ b. b ≤ 1) c.args.bits.now c.loop-k.k 0 c.loop-k-test.true c.requires.bits) w.if-bits-k-eq1.false) c.loop-k.invariant,
  )
]
