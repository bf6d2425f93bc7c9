use Rattle.std.proofs.Common.{arith, ap, ◌∙◌}
use Rattle.std.proofs.Common.{Vec, Global}
use Rattle.pb_constraints.specs.declared.groups.Group.{Group}
use Rattle.std.proofs.lemmas.Int.{ints}
use Rattle.std.proofs.lemmas.List.{length-take-le}
use Rattle.pb_constraints.specs.Groups.{var_of}
use Rattle.pb_constraints.proofs.Grouping.{at_end, at_same, at_next, at_order}
use Rattle.pb_constraints.proofs.groups.grouped.Goals as goal
use Rattle.pb_constraints.proofs.groups.grouped.Goals.{then-var+in_ok-close, else-var}

pub loop-p-preserved : goal.loop-p-preserved
loop-p-preserved c =
    let low = c.signed_of-sum.ensures.low in
    let high = c.signed_of-sum.ensures.high in
    elim c.if-var.branch [
      | then-var+in_ok-close w ↦
          record {
            grouping = at_next c.args.parts.now c.loop-p.p-index c.loop-p.groups.items c.if-var.groups.items c.loop-p.var c.if-var.var _ _ c.p-item.result _ _ c.loop-p.invariant.grouping
                (omega arith) c.p-item.is (omega (arith, c.loop-p.invariant.next c.p-item.result (omega arith), ap var_of c.p-item.is)) (omega arith) (omega arith) (omega (arith, ints))
                (ap (λ (v : Vec Group Global). v.items) w.groups-is ∙ w.in_ok-close.ensures) (omega arith) w.sum-is (omega (arith, ints)) (omega (arith, ints)) (omega (arith, ints));
            next = at_order c.args.parts.now c.loop-p.p-index c.p-item.result c.if-var.var c.requires c.p-item.is (omega arith);
          }
      | else-var w ↦
          record {
            grouping = at_same c.args.parts.now c.loop-p.p-index c.loop-p.groups.items c.if-var.groups.items c.loop-p.var c.if-var.var _ _ c.p-item.result _ c.loop-p.invariant.grouping
                (omega arith) c.p-item.is (omega arith) (ap (λ (v : Vec Group Global). v.items) w.groups-is) (omega arith) w.sum-is
                (omega (arith, ints, c.loop-p.invariant.grouping.bound, length-take-le c.loop-p.p-index c.args.parts.now (omega arith))) (omega (arith, ints)) (omega (arith, ints));
            next = at_order c.args.parts.now c.loop-p.p-index c.p-item.result c.if-var.var c.requires c.p-item.is (omega arith);
          }
    ]

pub returns : goal.returns
returns c = at_end c.args.parts.now c.loop-p.p-index c.loop-p.groups.items _ c.loop-p.var _ _ c.loop-p.invariant.grouping (omega arith) (omega (arith, ints)) c.in_ok-close-2.ensures
