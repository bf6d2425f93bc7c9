use Rattle.std.proofs.Common.{get_or, refl, arith}
use Rattle.std.specs.Prelude.{codes, decimal}
use Rattle.spelled_lines.proofs.Joining.{word_more}
use Rattle.make_run.proofs.saying.put_vector.Goals as goal

pub loop-number-preserved : goal.loop-number-preserved
loop-number-preserved c =
    let v = c.args.vector.now in
    let i = c.loop-number.number-index in
    word_more decimal (codes "vector") c.args.out.now.items c.loop-number.out.items c.put_number.new.out.items v i 0 (get_or v i 0) c.loop-number.invariant c.in_ok-put_number.ensures refl
    (omega arith)
