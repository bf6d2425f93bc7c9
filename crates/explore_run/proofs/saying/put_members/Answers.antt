use Rattle.std.proofs.Common.{arith}
use Rattle.explore_run.proofs.Lines.{member_more}
use Rattle.explore_run.proofs.saying.put_members.Goals as goal

pub loop-i-preserved : goal.loop-i-preserved
loop-i-preserved c =
    member_more c.args.spec.now c.args.out.now.items c.loop-i.out.items c.put_member.new.out.items c.args.members.now c.loop-i.i c.index-members-i.result c.loop-i.invariant
    c.in_ok-put_member.ensures c.index-members-i.is (omega arith)
