use Rattle.std.proofs.Common.{◌≡◌, true, sym}
use Rattle.line_words.specs.Numbers.{is_digits}
use Rattle.line_words.proofs.Digits.{whole_of_unread}
use Rattle.line_words.proofs.numbers.whole.Goals as goal

pub returns-in_default-2-clause-value : goal.returns-in_default-2-clause-value
returns-in_default-2-clause-value c =
    let d : is_digits c.args.word.now ≡ true = cc in
    sym (whole_of_unread c.args.word.now c.in_default.field-0 d c.in_default.ensures.value.0)
