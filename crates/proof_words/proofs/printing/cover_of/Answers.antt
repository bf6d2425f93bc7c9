use Rattle.std.proofs.Common.{[], get_or, refl, arith}
use Rattle.std.specs.Prelude.{codes, decimal}
use Rattle.spelled_lines.proofs.Joining.{word_more}
use Rattle.proof_words.proofs.printing.cover_of.Goals as goal

pub loop-number-preserved : goal.loop-number-preserved
loop-number-preserved c =
    let v = c.args.v.now in
    let i = c.loop-number.number-index in
    word_more decimal (codes "c") [] c.loop-number.text.items c.put_marked.new.text.items v i 0 (get_or v i 0) c.loop-number.invariant c.in_ok-put_marked.ensures refl (omega arith)
