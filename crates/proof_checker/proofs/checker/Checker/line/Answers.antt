use Rattle.std.proofs.Common.{arith, ◌≡◌, ◌+◌, Some, Ok, Err, false, refl, sym, subst}
use Rattle.result_text.specs.Fronts.{front_of}
use Rattle.front_model.specs.Fronts.{vectors_of}
use Rattle.front_model.specs.Judging.{judge_next, refusal_at}
use Rattle.front_model.specs.declared.refusals.Refused.{Refused}
use Rattle.proof_checker.specs.Checkers.{CheckerValue, progress_of, IsChecker}
use Rattle.proof_checker.specs.Answers.{Halts}
use Rattle.proof_checker.specs.Takings.{given_of, stand_of}
use Rattle.proof_checker.specs.declared.lines.Taken.TheVariants.{Header, Derived, Block}
use Rattle.proof_checker.proofs.Keeping.{next_checker, takes_header, takes_derived, takes_block, takes_refusal, judged_same, refused_same}
use Rattle.proof_checker.proofs.checker.Checker.line.Goals as goal

pub invariant_of-self : goal.invariant_of-self
invariant_of-self c =
    let i = c.self.inside in
    let h = c.self.invariant in
    let s = i.spec.now in
    let front = front_of i.front.now in
    let us = vectors_of front in
    let cs = i.constraints.items in
    let bytes = c.args.bytes.now in
    let e : judge_next s us i.lines (given_of cs i.covers) bytes ≡ Ok (stand_of (given_of cs i.covers) Header) =
    judged_same s us i.lines i.covers bytes cs cs c.in-Ok-Header.field-0 Header refl c.in-Ok-Header.field-0-is
    (subst (λ (w : CheckerValue). judge_next w.spec (vectors_of w.front) w.progress.lines w.progress.given bytes ≡ Ok (stand_of w.progress.given c.in-Ok-Header.field-0))
    (sym c.self.view_is) c.in-Ok-Header.ensures) in
    next_checker s front (progress_of cs i.covers i.lines i.closed i.refused) (progress_of cs i.covers (i.lines + 1) false i.refused) bytes h c.requires
    (takes_header s us cs i.covers i.lines i.closed i.refused bytes c.in_default.is e) h.few (omega (arith, c.if-self.false))

pub invariant_of-self-in-Ok-Derived : goal.invariant_of-self-in-Ok-Derived
invariant_of-self-in-Ok-Derived c =
    let i = c.self.inside in
    let h = c.self.invariant in
    let s = i.spec.now in
    let front = front_of i.front.now in
    let us = vectors_of front in
    let cs = i.constraints.items in
    let bytes = c.args.bytes.now in
    let x = c.in-Ok-Derived.constraint in
    let e : judge_next s us i.lines (given_of cs i.covers) bytes ≡ Ok (stand_of (given_of cs i.covers) (Derived x)) =
    judged_same s us i.lines i.covers bytes cs cs c.in-Ok-Derived.field-0 (Derived x) refl c.in-Ok-Derived.field-0-is
    (subst (λ (w : CheckerValue). judge_next w.spec (vectors_of w.front) w.progress.lines w.progress.given bytes ≡ Ok (stand_of w.progress.given c.in-Ok-Derived.field-0))
    (sym c.self.view_is) c.in-Ok-Derived.ensures) in
    let items = rw c.in-Ok-Derived.field-0-is at c.in_ok-push-in-Ok-Derived.ensures.items in
    let clash = rw c.in-Ok-Derived.field-0-is at c.is_clash-closed.ensures in
    next_checker s front (progress_of cs i.covers i.lines i.closed i.refused) (progress_of c.push.new.self.items i.covers (i.lines + 1) c.is_clash-closed.result i.refused) bytes h c.requires
    (takes_derived s us cs c.push.new.self.items i.covers i.lines i.closed c.is_clash-closed.result i.refused bytes x c.in_default.is e items clash) h.few (omega (arith, c.if-self.false))

pub invariant_of-self-in-Ok-Block : goal.invariant_of-self-in-Ok-Block
invariant_of-self-in-Ok-Block c =
    let i = c.self.inside in
    let h = c.self.invariant in
    let s = i.spec.now in
    let front = front_of i.front.now in
    let us = vectors_of front in
    let cs = i.constraints.items in
    let bytes = c.args.bytes.now in
    let x = c.in-Ok-Block.block in
    let e : judge_next s us i.lines (given_of cs i.covers) bytes ≡ Ok (stand_of (given_of cs i.covers) (Block x)) =
    judged_same s us i.lines i.covers bytes cs cs c.in-Ok-Block.field-0 (Block x) refl c.in-Ok-Block.field-0-is
    (subst (λ (w : CheckerValue). judge_next w.spec (vectors_of w.front) w.progress.lines w.progress.given bytes ≡ Ok (stand_of w.progress.given c.in-Ok-Block.field-0))
    (sym c.self.view_is) c.in-Ok-Block.ensures) in
    let items = rw c.in-Ok-Block.field-0-is at c.in_ok-append-in-Ok-Block.ensures.items in
    next_checker s front (progress_of cs i.covers i.lines i.closed i.refused) (progress_of c.append.new.self.items (i.covers + 1) (i.lines + 1) false i.refused) bytes h c.requires
    (takes_block s us cs c.append.new.self.items i.covers i.lines i.closed i.refused bytes x c.in_default.is e items) (omega (arith, h.few, c.if-self-2.false)) (omega (arith, c.if-self.false))

pub invariant_of-self-in-Err-Why : goal.invariant_of-self-in-Err-Why
invariant_of-self-in-Err-Why c =
    let i = c.self.inside in
    let h = c.self.invariant in
    let s = i.spec.now in
    let front = front_of i.front.now in
    let us = vectors_of front in
    let cs = i.constraints.items in
    let bytes = c.args.bytes.now in
    let why = c.in-Err-Why.why in
    let e : judge_next s us i.lines (given_of cs i.covers) bytes ≡ Err why = refused_same s us i.lines i.covers bytes cs cs c.in-Err-Why.field-0 why refl c.in-Err-Why.field-0-is
    (subst (λ (w : CheckerValue). Halts (judge_next w.spec (vectors_of w.front) w.progress.lines w.progress.given bytes) c.in-Err-Why.field-0) (sym c.self.view_is) c.in-Err-Why.ensures) in
    let kept = next_checker s front (progress_of cs i.covers i.lines i.closed i.refused) (progress_of cs i.covers i.lines i.closed (Some (refusal_at (i.lines + 1) why))) bytes h c.requires
    (takes_refusal s us cs i.covers i.lines i.closed i.refused bytes why c.in_default.is e) h.few h.lines in
    subst (λ (r : Refused). IsChecker s front (progress_of cs i.covers i.lines i.closed (Some r))) (sym c.refused_after-refused.ensures) kept
