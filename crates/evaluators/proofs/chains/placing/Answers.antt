use Rattle.std.proofs.Common.{◌≡◌, ℕ, ◌++◌, ◌∙◌, All, List, ap, sym, subst, length, arith}
use Rattle.std.specs.List.{flat_map}
use Rattle.spec_model.specs.Spec.{below}
use Rattle.spec_model.specs.Schedule.{tasks_of_depth}
use Rattle.spec_model.proofs.Those.{flat_map-below_more}
use Rattle.evaluators.specs.Marks.{AreDepths, IsBelow}
use Rattle.evaluators.proofs.Deepening.{few_places}
use Rattle.evaluators.proofs.chains.placing.Goals as goal

pub loop-d-preserved : goal.loop-d-preserved
loop-d-preserved c =
    let s = c.args.spec.now in
    let are : AreDepths s c.deref.result.now = subst (AreDepths s) (sym c.deref.ensures.value) c.in_ok-depths.ensures in
    record {
      order = c.in_ok-add_of_depth.ensures.added s are ∙ (ap (λ (xs : List ℕ). xs ++ tasks_of_depth s c.loop-d.d) c.loop-d.invariant.order ∙ sym (flat_map-below_more (tasks_of_depth s) c.loop-d.d));
      tasks =
          subst (λ (n : ℕ). All (IsBelow n) c.add_of_depth.new.order.items) are.each (c.add_of_depth.ensures.tasks
          (subst (λ (n : ℕ). All (IsBelow n) c.loop-d.order.items) (sym are.each) c.loop-d.invariant.tasks));
    }

pub returns-clause-few : goal.returns-clause-few
returns-clause-few c =
    let s = c.args.spec.now in
    let all : c.loop-d.d ≡ length s.tasks = omega arith in
    omega (arith, ap length (c.loop-d.invariant.order ∙ ap (λ (n : ℕ). flat_map (tasks_of_depth s) (below n)) all), few_places s)
