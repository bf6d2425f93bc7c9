use Rattle.std.proofs.Common.{arith}
use Rattle.propagate.proofs.Thinning.{kept_old, closed_old, old_emptied, listed_emptied, put_none}
use Rattle.propagate.proofs.watches.Watches.empty.Goals as goal

pub returns-then-slot-len-clause-built : goal.returns-then-slot-len-clause-built
returns-then-slot-len-clause-built c =
    let slots = c.args.self.now.slots.items in
    let h = c.if-slot-len.true in
    let len = c.len.ensures in
    λ n b. record {
      few = b.few;
      wide = b.wide;
      kept = kept_old n slots _ (old_emptied slots c.args.slot (omega (arith, h, len))) b.kept;
      listed = listed_emptied slots c.args.slot c.args.self.now.lists (omega (arith, h, len)) b.listed;
    }

pub returns-then-slot-len-clause-closed : goal.returns-then-slot-len-clause-closed
returns-then-slot-len-clause-closed c =
    let slots = c.args.self.now.slots.items in
    let h = c.if-slot-len.true in
    let len = c.len.ensures in
    λ ls a. closed_old ls slots _ c.args.self.now.closed.items (old_emptied slots c.args.slot (omega (arith, h, len))) a

pub returns-then-slot-len-clause-slots : goal.returns-then-slot-len-clause-slots
returns-then-slot-len-clause-slots c =
    let h = c.if-slot-len.true in
    let len = c.len.ensures in
    put_none c.args.self.now.slots.items c.args.slot (omega (arith, h, len))
