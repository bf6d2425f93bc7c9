use Rattle.std.proofs.Common.{◌+◌, ap, sym, ◌∙◌, arith, Vec, Global}
use Rattle.spec_model.specs.Spec.{Message}
use Rattle.spec_graph.specs.Merged.{is_unlisted}
use Rattle.spec_graph.proofs.Keeping.{keeping_yes, keeping_no, keeping_to}
use Rattle.spec_graph.proofs.merging.keep_others.Goals as goal
use Rattle.spec_graph.proofs.merging.keep_others.Goals.{then-leaves_out, else-leaves_out}

pub loop-m-preserved : goal.loop-m-preserved
loop-m-preserved c =
    let p = is_unlisted c.args.listed.now in
    elim c.if-leaves_out.branch [
      | then-leaves_out w ↦ keeping_to p c.args.messages.now.items w.swap.new.self.items c.if-leaves_out.messages.items (c.loop-m.kept + 1) c.if-leaves_out.kept (c.loop-m.m + 1)
          (ap (λ (v : Vec Message Global). v.items) w.messages-is) w.kept-is
          (keeping_yes p c.args.messages.now.items c.loop-m.messages.items w.swap.new.self.items c.loop-m.kept c.loop-m.m (sym c.leaves_out.ensures ∙ w.if-leaves_out.true)
          (omega (arith, c.args.messages.now.ok.0)) w.swap.ensures.by_index c.loop-m.invariant)
      | else-leaves_out w ↦ keeping_to p c.args.messages.now.items c.loop-m.messages.items c.if-leaves_out.messages.items c.loop-m.kept c.if-leaves_out.kept (c.loop-m.m + 1)
          (ap (λ (v : Vec Message Global). v.items) w.messages-is) w.kept-is
          (keeping_no p c.args.messages.now.items c.loop-m.messages.items c.loop-m.kept c.loop-m.m (sym c.leaves_out.ensures ∙ w.if-leaves_out.false) c.loop-m.invariant)
    ]
