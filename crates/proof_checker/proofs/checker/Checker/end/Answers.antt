use Rattle.std.proofs.Common.{arith, subst}
use Rattle.result_text.specs.Fronts.{front_of}
use Rattle.front_model.specs.Fronts.{IsFrontOf}
use Rattle.front_model.proofs.Files.{reached_is_front}
use Rattle.proof_checker.specs.Checkers.{CheckerValue, progress_of}
use Rattle.proof_checker.proofs.Keeping.{accepted_by}
use Rattle.proof_checker.proofs.checker.Checker.end.Goals as goal

pub returns-then-closed-clause-exact : goal.returns-then-closed-clause-exact
returns-then-closed-clause-exact c =
    let h = c.self.invariant in
    let i = c.self.inside in
    let p = progress_of i.constraints.items i.covers i.lines i.closed i.refused in
    λ e. subst (λ (x : CheckerValue). IsFrontOf x.spec x.front) c.self.view_is
    (reached_is_front i.spec.now (front_of i.front.now) p c.facts.ensures h.claim h.reached (accepted_by i.constraints.items i.covers i.lines i.closed i.refused c.in_default.is
    c.if-lines-eq0.false c.if-closed.true))

pub overflow_add-result : goal.overflow_add-result
overflow_add-result c = omega (arith, c.self.invariant.lines)
