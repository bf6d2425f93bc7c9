use Rattle.std.proofs.Common.{length, ap, arith}
use Rattle.spec_join.specs.Joining.{Joining}
use Rattle.spec_join.proofs.QuantityLines.{set_more, unbroken_at}
use Rattle.spec_join.proofs.joiner.Joiner.set_quantities.Goals as goal

pub set_quantity-requires-clause-unbroken : goal.set_quantity-requires-clause-unbroken
set_quantity-requires-clause-unbroken c =
    unbroken_at c.args.self.now c.loop-m.self c.args.table c.args.column c.args.rows c.loop-m.m c.loop-m.invariant (omega (arith, ap (λ (j : Joining). length j.message_kinds) c.self.view_is))
    c.requires.unbroken

pub loop-m-preserved : goal.loop-m-preserved
loop-m-preserved c = set_more c.args.self.now c.loop-m.self c.set_quantity.new.self c.args.table c.args.column c.args.rows c.loop-m.m c.loop-m.invariant c.set_quantity.ensures
