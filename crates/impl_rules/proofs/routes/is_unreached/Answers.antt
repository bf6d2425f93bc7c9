use Rattle.std.proofs.Common.{subst, ℕ}
use Rattle.spec_model.specs.Spec.{bits_of}
use Rattle.spec_model.specs.Rules.{Walk}
use Rattle.spec_model.proofs.Once.{IsOn-same}
use Rattle.impl_rules.proofs.Tests.{OnFalse-not}
use Rattle.impl_rules.proofs.routes.is_unreached.Goals as goal

pub returns-clause-met : goal.returns-clause-met
returns-clause-met c =
    let s = c.args.spec.now in
    let f = bits_of c.args.design.now in
    OnFalse-not c.is_reached.result _ (λ e there r on.
    let x = c.is_reached.ensures.0 e in
    record { hops = x.hops; walk = subst (λ (q : ℕ). Walk s f c.args.m.0 q x.hops) (IsOn-same s f _ _ r c.requires.bound c.resource_of.ensures on) x.walk })
