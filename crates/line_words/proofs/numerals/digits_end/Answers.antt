use Rattle.std.proofs.Common.{◌≡◌, ◌+◌, ◌-◌, drop, arith}
use Rattle.line_words.proofs.Exact.{AllDigits-run}
use Rattle.line_words.proofs.numerals.digits_end.Goals as goal

pub returns-clause-digits : goal.returns-clause-digits
returns-clause-digits c =
    let len : c.args.at + c.digits_len.result - c.args.at ≡ c.digits_len.result = omega arith in
    rw (len, c.digits_len.ensures.value, c.split_at.ensures.back) (AllDigits-run (drop c.args.at c.args.bytes.now))
