use Rattle.std.proofs.Common.{◌∙◌, sym}
use Rattle.spec_model.specs.Spec.{bits_of}
use Rattle.spec_model.proofs.Once.{IsOn-same}
use Rattle.impl_rules.proofs.Tests.{unequal_number}
use Rattle.impl_rules.proofs.routes.enters_source.Goals as goal

pub returns-then-ne-clause-met : goal.returns-then-ne-clause-met
returns-then-ne-clause-met c = λ x.
    unequal_number _ _ (sym c.ne.ensures ∙ c.if-ne.true) (c.arc.ensures.head ∙ IsOn-same c.args.spec.now (bits_of c.args.design.now) _ _ _ c.requires.once x.into_sender c.requires.source)
