use Rattle.std.proofs.Common.{◌∙◌, refl, arith}
use Rattle.propagate.specs.Watched.{wholes}
use Rattle.propagate.specs.Watches.{watched_in}
use Rattle.propagate.proofs.Appending.{Appends-none, Appends-trans}
use Rattle.propagate.proofs.Passing.{pass_more, pass_all}
use Rattle.propagate.proofs.watches.Watches.look_through_all.Goals as goal

pub loop-slot-init : goal.loop-slot-init
loop-slot-init c = record { variables = refl; appends = Appends-none (watched_in c.args.self.now) c.args.trail.now.entries; closed = λ h i lt. absurd (omega arith) }

pub loop-slot-preserved : goal.loop-slot-preserved
loop-slot-preserved c =
    let held = watched_in c.args.self.now in
    let start = c.args.trail.now.entries in
    let mid = c.loop-slot.trail.entries in
    let new = c.look_in.new.trail.entries in
    let i = c.loop-slot.invariant in
    let e = c.look_in.ensures in
    record {
      variables = e.variables ∙ i.variables;
      appends = Appends-trans held start mid new i.appends e.appends;
      closed = pass_more held (wholes c.args.self.now.slots.items) start mid new c.loop-slot.slot i.appends e.appends i.closed (e.closed c.if-look_in.false);
    }

pub returns-clause-closed : goal.returns-clause-closed
returns-clause-closed c = λ h. pass_all c.args.self.now.slots.items c.loop-slot.trail.entries c.loop-slot.slot
    (omega (arith, c.loop-slot-test.false, c.len-slot-end.ensures, c.args.self.now.slots.ok.0)) (c.loop-slot.invariant.closed h)

pub returns-then-look_in-clause-appends : goal.returns-then-look_in-clause-appends
returns-then-look_in-clause-appends c = Appends-trans (watched_in c.args.self.now) c.args.trail.now.entries c.loop-slot.trail.entries c.look_in.new.trail.entries c.loop-slot.invariant.appends
    c.look_in.ensures.appends
