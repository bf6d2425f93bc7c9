use Rattle.std.proofs.Common.{sym, ◌∙◌}
use Rattle.proof_words.proofs.Marks.{HasNoMark, op_of-numeral}
use Rattle.proof_words.proofs.reading.read_op.Goals as goal

pub returns-clause-value : goal.returns-clause-value
returns-clause-value c =
    let word = c.args.word.now in
    let unmarked : HasNoMark word = record {
      plus = c.in_default.ensures;
      saturate = c.in_default-after.ensures;
      variable = c.in_default-after-2.ensures;
      opposite = c.in_default-after-3.ensures;
      times = c.in_default-after-4.ensures;
      divide = c.in_default-after-5.ensures;
      weaken = c.in_default-after-6.ensures;
    } in
    c.read_id.ensures.value ∙ sym (op_of-numeral word unmarked)
