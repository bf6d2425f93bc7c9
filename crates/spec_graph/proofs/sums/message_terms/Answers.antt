use Rattle.std.proofs.Common.{◌<◌, length, All, subst, ap, ◌∙◌, sym, map}
use Rattle.spec_model.specs.Spec.{Message}
use Rattle.spec_graph.specs.Lists.{task_number}
use Rattle.spec_graph.proofs.Mapped.{all_of_map}
use Rattle.spec_graph.proofs.sums.message_terms.Goals as goal

pub sum_counts-requires-clause-there : goal.sum_counts-requires-clause-there
sum_counts-requires-clause-there c = all_of_map task_number (λ w. w < length c.args.counts.now) c.deref.result.now
    (subst (All (λ w. w < length c.args.counts.now)) (sym (ap (map task_number) c.deref.ensures.value ∙ ap (λ (m : Message). m.receivers) c.message.view_is)) c.requires.receivers_there)
