use Rattle.std.proofs.Common.{List, map, subst, ap, sym, ◌∙◌, ◌++◌, ◌∷◌, []}
use Rattle.std.specs.Prelude.{Any}
use Rattle.spec_graph.specs.Lists.{choice_value}
use Rattle.spec_graph.specs.Refusals.{IsOfPair}
use Rattle.spec_graph.specs.declared.numbers.Choice.{Choice}
use Rattle.spec_graph.proofs.Pairs.{pairs_after}
use Rattle.spec_graph.proofs.choices.Choices.push.Goals as goal

pub invariant_of-self-2 : goal.invariant_of-self-2
invariant_of-self-2 c =
    let choice : Choice = c.args.choice in
    let new = subst (λ (xs : List Choice). Any (IsOfPair choice.task.0 choice.resource.0) (map choice_value xs) → ⊥) (sym c.self.view_is) c.requires in
    pairs_after c.self.inside.list.items c.push_reserved.new.self.items choice c.self.inside.pairs.keys c.insert.new.self.keys c.self.invariant new c.in_ok-insert.ensures.keys
    (c.push_reserved.ensures.items ∙ ap (λ (xs : List Choice). xs ++ choice ∷ []) c.reserve.ensures.items)
