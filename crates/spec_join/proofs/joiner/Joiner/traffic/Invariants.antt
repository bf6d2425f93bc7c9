use Rattle.std.proofs.Common.{◌≡◌, fold, take}
use Rattle.spec_join.specs.Joining.{weighed_at}
use Rattle.spec_join.specs.Effects.{with_plan}
use Rattle.spec_join.proofs.joiner.Joiner.traffic.Given as goal

abbrev pub invariant-loop-word : goal.invariant-loop-word
invariant-loop-word l =
    l.self ≡ with_plan l.initial.self (record l.initial.self.plan {
      traffic_weights = fold (weighed_at l.initial.self.plan.objectives l.initial.self.scales l.link.0)
          l.initial.self.plan.traffic_weights (take l.word-index l.words);
    })
