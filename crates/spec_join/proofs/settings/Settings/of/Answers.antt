use Rattle.std.proofs.Common.{arith}
use Rattle.spec_join.proofs.Fitting.{declarable_at, declared_at}
use Rattle.spec_join.proofs.settings.Settings.of.Goals as goal

pub declare-requires : goal.declare-requires
declare-requires c = declarable_at c.args.lines.now c.loop-line.line-index c.line-item.result c.loop-line.settings c.requires (omega arith) c.line-item.is c.loop-line.invariant

pub loop-line-preserved : goal.loop-line-preserved
loop-line-preserved c =
    declared_at c.args.lines.now c.loop-line.line-index c.line-item.result c.loop-line.settings c.declare.new.self (omega arith) c.line-item.is c.loop-line.invariant c.in_ok-declare.ensures
