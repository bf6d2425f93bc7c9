use Rattle.check_run.proofs.Taking.{fault_on}
use Rattle.check_run.proofs.proof_lines.ProofLines.take_bytes.Goals as goal

pub returns-in-Err : goal.returns-in-Err
returns-in-Err c =
    fault_on (Unit {0}) c.args.self.now c.loop-body.self c.take_line.new.self c.args.bytes.now c.loop-body.rest.now c.in-Some.body.now c.in-Some.more.now c.in-Err.fault c.in-Some.ensures
    c.in-Err.ensures c.loop-body.invariant.1
