use Rattle.std.proofs.Common.{List, map, subst}
use Rattle.std.specs.Prelude.{IsTrue, ◌↔◌, Any}
use Rattle.spec_graph.specs.Lists.{choice_value}
use Rattle.spec_graph.specs.Refusals.{IsOfPair}
use Rattle.spec_graph.specs.declared.numbers.Choice.{Choice}
use Rattle.spec_graph.proofs.Pairs.{tells}
use Rattle.spec_graph.proofs.choices.Choices.has.Goals as goal

pub returns : goal.returns
returns c = subst (λ (xs : List Choice). IsTrue c.contains.result ↔ Any (IsOfPair c.args.task.0 c.args.resource.0) (map choice_value xs)) c.self.view_is
    (tells c.self.inside.list.items c.self.inside.pairs.keys c.args.task.0 c.args.resource.0 c.contains.result c.self.invariant c.contains.ensures)
