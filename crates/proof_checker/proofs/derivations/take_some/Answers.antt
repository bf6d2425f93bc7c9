use Rattle.std.proofs.Common.{arith}
use Rattle.proof_checker.proofs.Runs.{run_taken, run_refused}
use Rattle.proof_checker.proofs.derivations.take_some.Goals as goal

pub returns-in-Ok-clause-reaches : goal.returns-in-Ok-clause-reaches
returns-in-Ok-clause-reaches c =
    let xs = c.in_ok-run.run'.items in
    run_taken c.args.given.now c.args.known c.args.words.now c.args.from _ xs c.deref.result.now c.args.stack.now c.weaken_run.new.stack
    c.requires.known c.requires.few c.in_ok-run.ensures (omega (arith, c.if-len-lt2.false, c.len.ensures)) c.deref.ensures.value (omega (arith, c.len-in-Ok.ensures)) c.in-Ok.ensures

pub returns-clause-reaches : goal.returns-clause-reaches
returns-clause-reaches c =
    let xs = c.in_ok-run.run'.items in
    run_refused c.args.given.now c.args.known c.args.words.now c.args.from xs c.deref.result.now c.args.stack.now c.in-Err.fault
    c.requires.known c.requires.few c.in_ok-run.ensures (omega (arith, c.if-len-lt2.false, c.len.ensures)) c.deref.ensures.value c.in-Err.ensures
