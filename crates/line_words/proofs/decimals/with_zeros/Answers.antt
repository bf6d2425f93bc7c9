use Rattle.std.proofs.Common.{◌≡◌, ◌+◌, ◌*◌, ◌-◌, ◌^◌, min, ℕ, sym, ap, ◌∙◌, arith}
use Rattle.std.proofs.lemmas.Grind.{pow_more}
use Rattle.line_words.specs.Decimal.{most}
use Rattle.line_words.proofs.Exact.{sat_zeros, full}
use Rattle.line_words.proofs.decimals.with_zeros.Goals as goal

pub loop-left-preserved : goal.loop-left-preserved
loop-left-preserved c =
    let v = c.loop-left.value in
    let left = c.loop-left.left in
    let next : left - 1 + 1 ≡ left = omega arith in
    let step : v * 10 ^ left ≡ v * 10 * 10 ^ (left - 1) = ap (λ (k : ℕ). v * 10 ^ k) (sym next) ∙ ap (λ (p : ℕ). v * p) (pow_more 10 (left - 1)) ∙ omega arith in
    let same : min c.min-value.result most ≡ min (v * 10) most = omega (arith, c.min-value.ensures) in
    (sat_zeros c.min-value.result (v * 10) (left - 1) same ∙ ap (λ (n : ℕ). min n most) (sym step) ∙ c.loop-left.invariant.0, omega (arith, c.min-value.ensures))

pub returns-else-value-lt-MOST : goal.returns-else-value-lt-MOST
returns-else-value-lt-MOST c = full c.loop-left.value c.loop-left.left (omega arith) c.loop-left.invariant.1 ∙ c.loop-left.invariant.0
