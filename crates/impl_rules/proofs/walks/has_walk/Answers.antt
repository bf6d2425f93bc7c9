use Rattle.std.proofs.Common.{ℕ, refl, sym, ◌∙◌, subst, arith}
use Rattle.std.proofs.lemmas.Bool.{false≢true, eqb-true, eqb-false}
use Rattle.spec_model.specs.Spec.{bits_of}
use Rattle.spec_model.specs.Rules.{IsOn, sender_of}
use Rattle.spec_model.proofs.Once.{IsOn-elsewhere}
use Rattle.spec_model.proofs.Back.{IsBack-start, IsBack-found, IsBack-none, IsBack-step, IsBack-end}
use Rattle.impl_rules.proofs.walks.has_walk.Goals as goal

pub loop-hop-init : goal.loop-hop-init
loop-hop-init c = (c.requires.to, IsBack-start _ _ _ _)

pub returns-then-eq : goal.returns-then-eq
returns-then-eq c =
    let f = bits_of c.args.design.now in
    let on : IsOn c.args.spec.now f (sender_of c.args.spec.now c.args.m.0) c.loop-hop.at.0 =
    subst (λ (r : ℕ). IsOn c.args.spec.now f (sender_of c.args.spec.now c.args.m.0) r) (sym (eqb-true _ _ (sym c.eq.ensures ∙ c.if-eq.true))) c.requires.source in
    (λ e. IsBack-found _ _ _ _ _ _ _ c.loop-hop.invariant.1 (omega arith) on, λ w. refl)

pub returns-in-None : goal.returns-in-None
returns-in-None c =
    let f = bits_of c.args.design.now in
    let off = IsOn-elsewhere c.args.spec.now f _ _ _ c.requires.once c.requires.source (eqb-false _ _ (sym c.eq.ensures ∙ c.if-eq.false)) in (
      λ e. absurd (false≢true e),
      λ w. absurd (IsBack-none _ _ _ _ _ _ _ c.loop-hop.invariant.1 off (λ a u e. c.in-None.ensures a u.in_range (record { used = u; into = e })) w),
    )

pub loop-hop-preserved : goal.loop-hop-preserved
loop-hop-preserved c =
    let f = bits_of c.args.design.now in
    let off = IsOn-elsewhere c.args.spec.now f _ _ _ c.requires.once c.requires.source (eqb-false _ _ (sym c.eq.ensures ∙ c.if-eq.false)) in
    let next = IsBack-step _ _ _ _ _ _ c.in-Some.a c.loop-hop.invariant.1 off (c.requires.one_into _ c.loop-hop.invariant.0) c.in-Some.ensures.1.used c.in-Some.ensures.1.into in
    (c.arc.ensures.tail_there, rw c.arc.ensures.tail next)

pub returns : goal.returns
returns c =
    (λ e. absurd (false≢true e), λ w. absurd (IsBack-end _ _ _ _ _ _ _ c.loop-hop.invariant.1 (omega arith) w))
