use Rattle.std.proofs.Common.{◌≡◌, ◌∙◌, ℕ, ◌<◌, List, length, get_or, refl, ap}
use Rattle.std.proofs.lemmas.List.{get_or_default}
use Rattle.pb_constraints.specs.declared.ConId.{ConId}
use Rattle.propagate.specs.Propagator.{PropagatorView}
use Rattle.propagate.proofs.Dropping.{drops_none, drops_more}
use Rattle.propagate.proofs.propagator.Propagator.detach_singly.Goals as goal

abbrev none : ConId
none = record { 0 = 0 }

own : (ids : List ConId) (k : ℕ) → k < length ids → get_or ids k none ≡ get_or ids k (get_or ids k none)
own ids k h = get_or_default ids k none (get_or ids k none) h

pub loop-c-init : goal.loop-c-init
loop-c-init c = record { drops = drops_none c.args.self.now.attached c.args.dropped.now; same = refl }

pub loop-c-preserved : goal.loop-c-preserved
loop-c-preserved c =
    let ids = c.args.dropped.now in
    let k = c.loop-c.c-index in
    let p = c.loop-c.invariant in
    record {
      drops =
          drops_more ids k (get_or ids k none) c.args.self.now.attached c.loop-c.self.attached c.detach.new.self.attached c.loop-c-test.true (own ids k c.loop-c-test.true) p.drops
          c.detach.ensures.attached;
      same = c.detach.ensures.same ∙ ap (λ (v : PropagatorView). let w : PropagatorView = record { variables = v.variables; attached = c.detach.new.self.attached; counted = v.counted } in w) p.same;
    }
