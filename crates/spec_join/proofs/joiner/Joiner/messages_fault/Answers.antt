use Rattle.std.proofs.Common.{◌≡◌, ℕ, length, subst, ap, arith}
use Rattle.tgff_reader.specs.Looking.{table_at}
use Rattle.spec_join.specs.Joining.{Joining}
use Rattle.spec_join.specs.Quantities.{MessageBreaks}
use Rattle.spec_join.proofs.Lowest.{IsLeastBelow, least_below_more}
use Rattle.spec_join.proofs.joiner.Joiner.messages_fault.Goals as goal

pub loop-m-preserved : goal.loop-m-preserved
loop-m-preserved c =
    least_below_more (MessageBreaks c.args.self.now (table_at c.args.self.now.tables c.args.table) c.args.column c.args.rows) c.loop-m.m c.loop-m.fault c.message_fault.result c.lower_of-fault.result
    c.lower_of-fault.ensures c.loop-m.invariant c.message_fault.ensures

pub returns : goal.returns
returns c =
    let s = c.args.self.now in
    let all : c.len-m-end.result ≡ length s.message_kinds = omega (arith, ap (λ (j : Joining). length j.message_kinds) c.self.view_is) in
    let end : c.loop-m.m ≡ length s.message_kinds = omega arith in
    subst (λ (n : ℕ). IsLeastBelow (MessageBreaks s (table_at s.tables c.args.table) c.args.column c.args.rows) n c.loop-m.fault) end c.loop-m.invariant
