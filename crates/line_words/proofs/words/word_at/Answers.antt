use Rattle.std.proofs.Common.{◌≡◌, ◌+◌, ◌-◌, arith}
use Rattle.std.proofs.lemmas.List.{take_rest}
use Rattle.line_words.proofs.Runs.{word_here, no_word_here}
use Rattle.line_words.proofs.words.word_at.Goals as goal

pub returns-clause-end : goal.returns-clause-end
returns-clause-end c =
    λ e. no_word_here c.args.bytes.now c.args.at c.blank_len.result c.word_len.result (rw take_rest at c.blank_len.ensures.value) (rw take_rest at c.word_len.ensures.value) (omega arith)

pub returns-clause-word : goal.returns-clause-word
returns-clause-word c = λ lt.
    let len : c.args.at + c.blank_len.result + c.word_len.result - (c.args.at + c.blank_len.result) ≡ c.word_len.result = omega arith in
    rw len (word_here c.args.bytes.now c.args.at c.blank_len.result c.word_len.result (rw take_rest at c.blank_len.ensures.value) (rw take_rest at c.word_len.ensures.value) (omega arith))
