use Rattle.std.proofs.Common.{◌∙◌}
use Rattle.propagate.specs.Watched.{wholes}
use Rattle.propagate.proofs.Attaching.{attached_at_slot}
use Rattle.propagate.proofs.Tying.{appends_slot}
use Rattle.propagate.proofs.Wholes.{whole_is}
use Rattle.propagate.proofs.Passing.{watched_is}
use Rattle.propagate.proofs.watches.Watches.look_in.Goals as goal

pub look_through-requires : goal.look_through-requires
look_through-requires c =
    let s = c.args.self.now.slots.items in
    let i = c.args.slot in
    let here = watched_is s i c.index.result.now c.in-Some.c c.requires.here c.index.ensures c.in-Some.is in
    record { in_range = (c.requires.built.kept i c.in-Some.c here).in_range }

pub returns-in-Some-clause-appends : goal.returns-in-Some-clause-appends
returns-in-Some-clause-appends c =
    let s = c.args.self.now.slots.items in
    let i = c.args.slot in
    let here = watched_is s i c.index.result.now c.in-Some.c c.requires.here c.index.ensures c.in-Some.is in
    appends_slot (wholes s) i c.in-Some.c.whole c.args.trail.now.entries c.look_through.new.trail.entries (whole_is s i c.in-Some.c here) c.look_through.ensures.appends

pub returns-in-Some-clause-conflict : goal.returns-in-Some-clause-conflict
returns-in-Some-clause-conflict c = λ t.
    let s = c.args.self.now.slots.items in
    let i = c.args.slot in
    let here = watched_is s i c.index.result.now c.in-Some.c c.requires.here c.index.ensures c.in-Some.is in
    record {
      constraint = c.in-Some.c.whole;
      attached = attached_at_slot (wholes s) (record { 0 = i }) ∙ whole_is s i c.in-Some.c here;
      conflict = c.look_through.ensures.conflict t;
    }
