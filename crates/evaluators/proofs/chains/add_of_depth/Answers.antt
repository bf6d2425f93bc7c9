use Rattle.std.proofs.Common.{rules, ◌≡◌, ◌++◌, [], ◌∷◌, ◌∙◌, All, arith, length, subst, sym}
use Rattle.std.proofs.lemmas.Bool.{eq-eqb, ne_eqb}
use Rattle.std.proofs.lemmas.List.Elements.{All-push}
use Rattle.spec_model.specs.Schedule.{has_depth}
use Rattle.evaluators.specs.Marks.{IsBelow}
use Rattle.evaluators.proofs.Deepening.{placed_yes, placed_no, depth_test}
use Rattle.evaluators.proofs.chains.add_of_depth.Goals as goal
use Rattle.evaluators.proofs.chains.add_of_depth.Goals.{then-depths-t+in_ok-push, else-depths-t}

pub loop-t-preserved : goal.loop-t-preserved
loop-t-preserved c =
    elim c.if-depths-t.branch [
      | then-depths-t+in_ok-push w ↦
          let more : c.if-depths-t.order.items ≡ c.loop-t.order.items ++ c.loop-t.t ∷ [] = search rules in
          record {
            added = λ s are. more ∙ placed_yes (has_depth s c.args.d) c.loop-t.t c.args.order.now.items c.loop-t.order.items
                (depth_test s c.args.depths.now c.args.d c.loop-t.t are (omega (arith, are.each)) ∙ eq-eqb _ _ w.if-depths-t.true) (c.loop-t.invariant.added s are);
            tasks =
                λ all. subst (All (IsBelow (length c.args.depths.now))) (sym more) (All-push (IsBelow (length c.args.depths.now)) c.loop-t.order.items c.loop-t.t (c.loop-t.invariant.tasks all)
                (omega arith));
          }
      | else-depths-t w ↦
          let same : c.if-depths-t.order.items ≡ c.loop-t.order.items = search rules in
          record {
            added = λ s are. same ∙ placed_no (has_depth s c.args.d) c.loop-t.t c.args.order.now.items c.loop-t.order.items
                (depth_test s c.args.depths.now c.args.d c.loop-t.t are (omega (arith, are.each)) ∙ ne_eqb _ _ w.if-depths-t.false) (c.loop-t.invariant.added s are);
            tasks = λ all. subst (All (IsBelow (length c.args.depths.now))) (sym same) (c.loop-t.invariant.tasks all);
          }
    ]
