use Rattle.std.proofs.Common.{◌≡◌, ℕ, length, subst, ap, arith}
use Rattle.tgff_reader.specs.Looking.{table_at}
use Rattle.spec_join.specs.Joining.{Joining}
use Rattle.spec_join.specs.Tables.{TaskBreaks}
use Rattle.spec_join.proofs.Lowest.{IsLeastBelow, least_below_more}
use Rattle.spec_join.proofs.joiner.Joiner.tasks_fault.Goals as goal

pub loop-t-preserved : goal.loop-t-preserved
loop-t-preserved c =
    least_below_more (TaskBreaks c.args.self.now (table_at c.args.self.now.tables c.args.table) c.args.keys.now) c.loop-t.t c.loop-t.fault c.task_fault.result c.lower_of-fault.result
    c.lower_of-fault.ensures c.loop-t.invariant c.task_fault.ensures

pub returns : goal.returns
returns c =
    let s = c.args.self.now in
    let all : c.len-t-end.result ≡ length s.task_kinds = omega (arith, ap (λ (j : Joining). length j.task_kinds) c.self.view_is) in
    let end : c.loop-t.t ≡ length s.task_kinds = omega arith in
    subst (λ (n : ℕ). IsLeastBelow (TaskBreaks s (table_at s.tables c.args.table) c.args.keys.now) n c.loop-t.fault) end c.loop-t.invariant
