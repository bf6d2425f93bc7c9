use Rattle.line_words.specs.Numeral.{parts_of}
use Rattle.line_words.proofs.Exact.{AllDigits-take, assembled}
use Rattle.line_words.proofs.decimals.units_of.Goals as goal

pub with_digits-value-requires-clause-digits : goal.with_digits-value-requires-clause-digits
with_digits-value-requires-clause-digits c = AllDigits-take _ c.args.parts.now.whole.now c.requires.whole

pub with_digits-value-requires-2-clause-digits : goal.with_digits-value-requires-2-clause-digits
with_digits-value-requires-2-clause-digits c = AllDigits-take _ c.args.parts.now.fraction.now c.requires.fraction

pub returns : goal.returns
returns c =
    assembled (parts_of c.args.parts.now) c.with_digits-exponent.result c.kept-keep.result c.min-from_whole.result c.min-from_fraction.result c.with_digits-value.result
    c.with_digits-value-2.result c.saturating_sub.result c.with_zeros.result
    c.requires.whole c.requires.fraction c.with_digits-exponent.ensures c.requires.short c.kept-keep.ensures c.min-from_whole.ensures c.min-from_fraction.ensures c.with_digits-value.ensures
    c.with_digits-value-2.ensures c.saturating_sub.ensures c.with_zeros.ensures
