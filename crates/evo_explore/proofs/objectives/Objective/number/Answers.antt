use Rattle.std.proofs.Common.{sym, ap, ◌∙◌, length}
use Rattle.evo_explore.proofs.Weighing.{number_is}
use Rattle.evo_explore.proofs.objectives.Objective.number.Goals as goal

pub returns : goal.returns
returns c =
    let same = c.deref.ensures.value ∙ c.self.view_is in
    λ s j laid. c.weighted_sum.ensures ∙ number_is s j c.bytes.result.now c.deref.result.now c.args.design.now c.bytes.ensures.bits c.bytes.ensures.zero_or_one (c.requires ∙ ap length (sym same))
    (same ∙ laid)
