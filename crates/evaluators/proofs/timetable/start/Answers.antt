use Rattle.std.proofs.Common.{rules, ◌≡◌, ◌∙◌, All, sym, subst, arith}
use Rattle.spec_model.specs.Spec.{bits_of}
use Rattle.spec_model.specs.Schedule.{arrival, goes_to, free_from}
use Rattle.evaluators.specs.Placed.{AreEnds, IsNoLater}
use Rattle.evaluators.proofs.Timing.{start_later, start_same, start_is}
use Rattle.evaluators.proofs.timetable.start.Goals as goal
use Rattle.evaluators.proofs.timetable.start.Goals.{then-goes_to, else-goes_to}

pub loop-m-preserved : goal.loop-m-preserved
loop-m-preserved c =
    let s = c.args.spec.now in
    let f = bits_of c.args.design.now in
    elim c.if-goes_to.branch [
      | then-goes_to w ↦
          let now : c.if-goes_to.start ≡ w.max-start.result = search rules in
          record {
            time = λ slots are. start_later (arrival s f slots c.args.r.0) (goes_to s c.args.t.0) c.loop-m.m (free_from slots c.args.r.0) c.loop-m.start w.arrival.result _
                (sym c.goes_to.ensures ∙ w.if-goes_to.true) (c.loop-m.invariant.time slots are) (w.arrival.ensures.time slots (subst (AreEnds s slots) (sym w.deref.ensures.value) are.ends))
                (now ∙ w.max-start.ensures);
            small =
                λ time by. omega (arith, now, w.max-start.ensures, c.loop-m.invariant.small time by, w.arrival.ensures.small time (subst (All (IsNoLater time)) (sym w.deref.ensures.value) by.tasks));
          }
      | else-goes_to w ↦
          let same : c.if-goes_to.start ≡ c.loop-m.start = search rules in
          record {
            time =
                λ slots are. same ∙ start_same (arrival s f slots c.args.r.0) (goes_to s c.args.t.0) c.loop-m.m (free_from slots c.args.r.0) c.loop-m.start
                (sym c.goes_to.ensures ∙ w.if-goes_to.false) (c.loop-m.invariant.time slots are);
            small = λ time by. omega (arith, same, c.loop-m.invariant.small time by);
          }
    ]

pub returns-clause-time : goal.returns-clause-time
returns-clause-time c slots are =
    start_is c.args.spec.now (bits_of c.args.design.now) slots c.args.t.0 c.args.r.0 c.loop-m.m c.loop-m.start c.requires.its_own (omega arith) (c.loop-m.invariant.time slots are)
