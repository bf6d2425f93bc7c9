use Rattle.std.proofs.Common.{List, ap, subst}
use Rattle.std.specs.Prelude.{IsTrue, ◌↔◌, Any}
use Rattle.spec_model.specs.Spec.{SpecValue, Choice}
use Rattle.spec_graph.specs.Refusals.{IsOfPair}
use Rattle.spec_graph.proofs.builder.SpecBuilder.is_mapped.Goals as goal

pub returns : goal.returns
returns c = subst (λ (os : List Choice). IsTrue c.has.result ↔ Any (IsOfPair c.args.task.0 c.args.resource.0) os) (ap (λ (s : SpecValue). s.options) c.self.view_is) c.has.ensures
