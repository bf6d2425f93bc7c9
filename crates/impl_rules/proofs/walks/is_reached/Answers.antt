use Rattle.std.proofs.Common.{◌∙◌, sym}
use Rattle.std.proofs.lemmas.Bool.{eqb-false}
use Rattle.spec_model.specs.Spec.{bits_of}
use Rattle.spec_model.proofs.Once.{IsOn-same}
use Rattle.impl_rules.proofs.Reaching.{reached_by}
use Rattle.impl_rules.proofs.walks.is_reached.Goals as goal

pub returns : goal.returns
returns c =
    let s = c.args.spec.now in
    let f = bits_of c.args.design.now in
    reached_by s f c.args.m.0 c.args.to.0 c.arc_into.result c.is_some.result
    (λ on. eqb-false _ _ (sym c.eq.ensures ∙ c.if-eq.false) (IsOn-same s f _ _ _ c.requires.once on c.requires.source))
    c.requires.walks c.arc_into.ensures c.is_some.ensures
