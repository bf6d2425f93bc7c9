use Rattle.std.proofs.Common.{arith}
use Rattle.spelled_lines.proofs.Ended.{no_lf}
use Rattle.check_run.proofs.Lines.{cut_at}
use Rattle.check_run.proofs.proof_lines.cut_line.Goals as goal

pub returns-then-len-bytes : goal.returns-then-len-bytes
returns-then-len-bytes c = no_lf c.args.bytes.now (omega (arith, c.len_before_lf-len.ensures.value, c.if-len-bytes.true))

pub returns : goal.returns
returns c = cut_at c.args.bytes.now c.len_before_lf-len.result c.len_before_lf-len.ensures.value c.if-len-bytes.false c.len_before_lf-len.ensures.within
