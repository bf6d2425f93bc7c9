use Rattle.std.proofs.Common.{◌≡◌, get_or, None}
use Rattle.std.proofs.lemmas.List.{get_or_default}
use Rattle.pb_constraints.specs.declared.ConId.{ConId}
use Rattle.propagate.specs.Watched.{wholes}
use Rattle.propagate.specs.Watches.{watched_in}
use Rattle.propagate.proofs.Attachments.{changes_put}
use Rattle.propagate.proofs.Dropping.{drops_more}
use Rattle.propagate.proofs.watches.Watches.clear_each.Goals as goal

abbrev none : ConId
none = record { 0 = 0 }

pub loop-c-preserved : goal.loop-c-preserved
loop-c-preserved c =
    let s = c.args.self.now in
    let m = c.loop-c.self in
    let n = c.empty.new.self in
    let ids = c.args.dropped.now in
    let k = c.loop-c.c-index in
    let h = c.loop-c-test.true in
    let p = c.loop-c.invariant in
    let e = c.empty.ensures in
    let id = get_or ids k none in
    let own : id ≡ get_or ids k id = get_or_default ids k none id h in
    record {
      built = λ v b. e.built v (p.built v b);
      closed = λ ls a. e.closed ls (p.closed ls a);
      attached = drops_more ids k id (watched_in s) (watched_in m) (watched_in n) h own p.attached (changes_put (wholes m.slots.items) (wholes n.slots.items) id None e.slots);
    }
