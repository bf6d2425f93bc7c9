use Rattle.std.specs.Float.Numeral as std
use Rattle.line_words.specs.declared.numerals.Numeral.{Numeral}

-- the parts of a numeral, as std has them
abbrev pub parts_of : Numeral → std.Parts
parts_of p = record { whole = p.whole.now; point = p.point; fraction = p.fraction.now; exponent_negative = p.negative; exponent = p.exponent.now; len = p.len }
