use Rattle.std.proofs.Common.{◌++◌, ◌∙◌, ap, sym}
use Rattle.spec_model.proofs.Those.{flat_map-below_more}
use Rattle.spec_make.specs.Mesh.{ends_at}
use Rattle.spec_make.proofs.mesh.all_ends.Goals as goal

pub loop-i-preserved : goal.loop-i-preserved
loop-i-preserved c = c.in_ok-push_ends.ensures ∙ ap (λ l. l ++ ends_at c.args.side c.loop-i.i) c.loop-i.invariant ∙ sym (flat_map-below_more (ends_at c.args.side) c.loop-i.i)
