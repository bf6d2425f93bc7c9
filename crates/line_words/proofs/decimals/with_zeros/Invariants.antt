use Rattle.std.proofs.Common.{◌≡◌, ◌≤◌, ◌*◌, ◌^◌, min}
use Rattle.line_words.specs.Decimal.{most}
use Rattle.line_words.proofs.decimals.with_zeros.Given as goal

abbrev pub invariant-loop-left : goal.invariant-loop-left
invariant-loop-left l = (min (l.value * 10 ^ l.left) most ≡ min (l.number * 10 ^ l.zeros) most) × (l.value ≤ most)

abbrev pub decreases-loop-left : goal.decreases-loop-left
decreases-loop-left l = l.left
