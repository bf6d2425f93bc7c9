use Rattle.std.proofs.Common.{[], sym, arith}
use Rattle.std.specs.Prelude.{codes}
use Rattle.proof_words.specs.Words.{op_text}
use Rattle.spelled_lines.proofs.Joining.{word_more}
use Rattle.proof_words.proofs.printing.derivation_of.Goals as goal

pub loop-op-preserved : goal.loop-op-preserved
loop-op-preserved c =
    let op = c.op-item.result in
    word_more op_text (codes "p") [] c.loop-op.text.items c.put_word.new.text.items c.args.ops.now c.loop-op.op-index op op c.loop-op.invariant c.in_ok-put_word.ensures (sym c.op-item.is)
    (omega arith)
