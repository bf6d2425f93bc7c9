use Rattle.std.proofs.Common.{◌≡◌, ℕ, length, List, map, sym, ◌∙◌, ap, subst, Contains, arith}
use Rattle.spec_model.specs.Spec.{Name, name_at}
use Rattle.spec_graph.specs.Merged.{is_unlisted, unlisted}
use Rattle.spec_graph.proofs.Keeping.{name_new, name_free, names_yes, names_no}
use Rattle.spec_graph.proofs.merging.names_after.Goals as goal
use Rattle.spec_graph.proofs.merging.names_after.Goals.{then-leaves_out+in_ok-add, else-leaves_out}

pub add-requires-clause-new : goal.add-requires-clause-new
add-requires-clause-new c h = name_new c.args.names.now (is_unlisted c.args.listed.now) c.loop-m.m c.requires.distinct (omega arith)
    (subst (λ (xs : List Name). Contains xs (name_at c.args.names.now c.loop-m.m)) c.loop-m.invariant (subst (Contains c.loop-m.after) c.at.ensures h))

pub loop-m-preserved : goal.loop-m-preserved
loop-m-preserved c = elim c.if-leaves_out.branch [
  | then-leaves_out+in_ok-add w ↦ names_yes c.args.names.now (is_unlisted c.args.listed.now) c.loop-m.m c.loop-m.after c.if-leaves_out.after w.at.result.now
      (sym c.leaves_out.ensures ∙ w.if-leaves_out.true) w.at.ensures c.loop-m.invariant (w.after-is ∙ w.in_ok-add.ensures.added)
  | else-leaves_out w ↦ names_no c.args.names.now (is_unlisted c.args.listed.now) c.loop-m.m c.loop-m.after c.if-leaves_out.after (sym c.leaves_out.ensures ∙ w.if-leaves_out.false)
      c.loop-m.invariant w.after-is
]

pub add-requires-2-clause-new : goal.add-requires-2-clause-new
add-requires-2-clause-new c h =
    let same : c.loop-m.m ≡ length c.args.names.now = omega arith in
    name_free c.args.names.now c.args.name.now c.args.listed.now c.requires.new (subst (λ (xs : List Name). Contains xs c.args.name.now)
    (c.loop-m.invariant ∙ ap (λ (n : ℕ). map (name_at c.args.names.now) (unlisted c.args.listed.now n)) same) h)
