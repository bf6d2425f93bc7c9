use Rattle.std.proofs.Common.{length, sym, ◌∙◌, arith}
use Rattle.std.proofs.lemmas.List.Sums.{position_or_len_is}
use Rattle.line_words.specs.Front.{ends_content}
use Rattle.line_words.proofs.lines.front_of.Goals as goal

pub returns-then-ends_content-clause-len : goal.returns-then-ends_content-clause-len
returns-then-ends_content-clause-len c =
    sym (position_or_len_is ends_content c.args.bytes.now c.loop-len.len 0 (omega (arith, c.loop-len-test.true)) c.loop-len.invariant.goes (λ lt. sym c.ends_content.ensures ∙ c.if-ends_content.true))

pub returns-clause-len : goal.returns-clause-len
returns-clause-len c =
    let bytes = c.args.bytes.now in
    sym (position_or_len_is ends_content bytes (length bytes) 0 (omega arith) (λ k lt. c.loop-len.invariant.goes k (omega (arith, lt, c.loop-len-test.false))) (λ lt. absurd (omega (arith, lt))))
