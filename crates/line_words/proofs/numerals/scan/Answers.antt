use Rattle.std.proofs.Common.{rules}
use Rattle.std.specs.Float.Numeral.{scan_numeral}
use Rattle.line_words.proofs.numerals.scan.Goals as goal
use Rattle.line_words.proofs.numerals.scan.Goals.{then-has_exponent, else-has_exponent}

pub returns-clause-parts : goal.returns-clause-parts
unfolding scan_numeral
returns-clause-parts c = elim c.if-has_exponent.branch [ then-has_exponent w ↦ search rules | else-has_exponent w ↦ search rules ]
