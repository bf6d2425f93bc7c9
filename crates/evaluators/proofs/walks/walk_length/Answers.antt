use Rattle.std.proofs.Common.{ℕ, ◌∙◌, sym, subst, arith}
use Rattle.std.proofs.lemmas.Bool.{eqb-true, eqb-false}
use Rattle.spec_model.specs.Spec.{bits_of}
use Rattle.spec_model.specs.Rules.{IsOn, sender_of}
use Rattle.spec_model.proofs.Once.{IsOn-elsewhere}
use Rattle.spec_model.proofs.Back.{IsBack-start, IsBack-step}
use Rattle.evaluators.proofs.Walking.{walk_length_found, walk_length-none, walk_length_far}
use Rattle.evaluators.proofs.walks.walk_length.Goals as goal

pub loop-hops-init : goal.loop-hops-init
loop-hops-init c = (c.requires.to, IsBack-start _ _ _ _)

pub returns-then-eq-clause-length : goal.returns-then-eq-clause-length
returns-then-eq-clause-length c =
    let f = bits_of c.args.design.now in
    let on : IsOn c.args.spec.now f (sender_of c.args.spec.now c.args.m.0) c.loop-hops.at.0 =
    subst (λ (r : ℕ). IsOn c.args.spec.now f (sender_of c.args.spec.now c.args.m.0) r) (sym (eqb-true _ _ (sym c.eq.ensures ∙ c.if-eq.true))) c.requires.source in
    sym (walk_length_found _ _ _ _ _ _ c.loop-hops.invariant.1 (omega arith) on)

pub returns-in-None-clause-length : goal.returns-in-None-clause-length
returns-in-None-clause-length c =
    let f = bits_of c.args.design.now in
    let off = IsOn-elsewhere c.args.spec.now f _ _ _ c.requires.once c.requires.source (eqb-false _ _ (sym c.eq.ensures ∙ c.if-eq.false)) in
    sym (walk_length-none _ _ _ _ _ _ c.loop-hops.invariant.1 off (λ a u e. c.in-None.ensures a u.in_range (record { used = u; into = e })))

pub loop-hops-preserved : goal.loop-hops-preserved
loop-hops-preserved c =
    let f = bits_of c.args.design.now in
    let off = IsOn-elsewhere c.args.spec.now f _ _ _ c.requires.once c.requires.source (eqb-false _ _ (sym c.eq.ensures ∙ c.if-eq.false)) in
    let one = c.requires.valid.routed.one_arc_into c.args.m.0 c.loop-hops.at.0 c.requires.message c.loop-hops.invariant.0 in
    let next = IsBack-step _ _ _ _ _ _ c.in-Some.a c.loop-hops.invariant.1 off one c.in-Some.ensures.1.used c.in-Some.ensures.1.into in
    (c.arc.ensures.tail_there, rw c.arc.ensures.tail next)

pub returns-clause-length : goal.returns-clause-length
returns-clause-length c = sym (walk_length_far _ _ _ _ _ _ c.loop-hops.invariant.1 (omega arith))
