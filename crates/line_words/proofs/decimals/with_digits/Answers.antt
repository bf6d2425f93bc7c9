use Rattle.std.proofs.Common.{◌≡◌, ◌+◌, ◌*◌, ◌-◌, min, drop, get_or, ℕ, sym, ap, ◌∙◌, arith}
use Rattle.std.specs.Str.Parse.{digits_value_after}
use Rattle.std.specs.Char.{digit_value}
use Rattle.std.proofs.lemmas.List.{drop_more}
use Rattle.std.proofs.lemmas.Str.Parse.{digit_at}
use Rattle.line_words.specs.Decimal.{most}
use Rattle.line_words.proofs.Exact.{sat_after, digit_is, min_step}
use Rattle.line_words.proofs.decimals.with_digits.Goals as goal

pub overflow_sub-digit : goal.overflow_sub-digit
overflow_sub-digit c = let r = digit_at c.args.digits.now c.loop-digit.digit-index c.requires.digits (omega arith) in omega (arith, r)

pub loop-digit-preserved : goal.loop-digit-preserved
loop-digit-preserved c =
    let xs = c.args.digits.now in
    let i = c.loop-digit.digit-index in
    let d = get_or xs i 0 in
    let r = digit_at xs i c.requires.digits (omega arith) in
    let is : digit_value d ≡ d - 48 = digit_is d r in
    let step : digits_value_after 10 c.loop-digit.value (drop i xs) ≡ digits_value_after 10 (c.loop-digit.value * 10 + digit_value d) (drop (i + 1) xs) =
    ap (digits_value_after 10 c.loop-digit.value) (drop_more xs i 0 (omega arith)) in
    let same : min c.min-value.result most ≡ min (c.loop-digit.value * 10 + digit_value d) most = (min_step c.min-value.result c.loop-digit.value c.from.result (digit_value d) c.min-value.ensures
    (c.from.ensures ∙ sym is)).0 in (
      sat_after c.min-value.result (c.loop-digit.value * 10 + digit_value d) (drop (i + 1) xs) same ∙ ap (λ (n : ℕ). min n most) (sym step)
          ∙ c.loop-digit.invariant.0,
      (min_step c.min-value.result c.loop-digit.value c.from.result (digit_value d) c.min-value.ensures (c.from.ensures ∙ sym is)).1,
    )
