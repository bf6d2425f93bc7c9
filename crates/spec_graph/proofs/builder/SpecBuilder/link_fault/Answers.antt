use Rattle.std.proofs.Common.{Contains, subst}
use Rattle.spec_model.specs.Spec.{SpecValue}
use Rattle.spec_graph.proofs.builder.SpecBuilder.link_fault.Goals as goal

pub returns-then-contains : goal.returns-then-contains
returns-then-contains c = subst (λ (s : SpecValue). Contains s.links c.args.name.now) c.self.view_is (c.contains.ensures.0 c.if-contains.true)
