use Rattle.std.proofs.Common.{◌≡◌, ◌≤◌, min, drop}
use Rattle.std.specs.Str.Parse.{digits_value_after}
use Rattle.line_words.specs.Decimal.{most}
use Rattle.line_words.proofs.decimals.with_digits.Given as goal

abbrev pub invariant-loop-digit : goal.invariant-loop-digit
invariant-loop-digit l = (min (digits_value_after 10 l.value (drop l.digit-index l.digits)) most ≡ min (digits_value_after 10 l.number l.digits) most) × (l.value ≤ most)
