use Rattle.std.proofs.Common.{arith, ap, ◌∙◌, sym, set}
use Rattle.std.proofs.lemmas.List.Edits.{map_over_more}
use Rattle.spec_model.specs.Spec.{Message}
use Rattle.spec_graph.specs.Changes.{changed}
use Rattle.spec_graph.proofs.messages.apply_to_all.Goals as goal

pub loop-message-preserved : goal.loop-message-preserved
loop-message-preserved c =
    ap (set c.loop-message.messages c.loop-message.message-index) c.apply.ensures
    ∙ ap (λ (m : Message). set c.loop-message.messages c.loop-message.message-index (changed c.args.change m)) (sym c.message-item.is)
    ∙ map_over_more (changed c.args.change) c.args.messages.now c.loop-message.messages c.loop-message.message-index c.message-item.result (omega arith) c.loop-message.invariant c.message-item.is
