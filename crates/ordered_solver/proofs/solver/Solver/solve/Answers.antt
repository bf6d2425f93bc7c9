use Rattle.std.proofs.Common.{◌∙◌, sym, ap, subst, false, refl}
use Rattle.ordered_solver.specs.Answers.{AnswerSays, AnswersInFrames, AreNewOverKept}
use Rattle.ordered_solver.specs.Engines.{given_of, kept_of}
use Rattle.ordered_solver.specs.Solver.{SolverValue, constraints_of}
use Rattle.ordered_solver.proofs.Agreeing.{says_given, in_frames, new_over-kept}
use Rattle.ordered_solver.proofs.Between.{between_on, same_value}
use Rattle.ordered_solver.proofs.KeptOn.{given_on}
use Rattle.ordered_solver.proofs.solver.Solver.solve.Goals as goal

pub returns-clause-answer : goal.returns-clause-answer
returns-clause-answer c =
    let e = c.self.inside.engine in
    let b = c.self.invariant c.if-self.false in
    let S : SolverValue → Type 0 = λ v. AnswerSays (constraints_of v.given) c.args.order.now c.in_ok-answer.answer in
    subst S c.self.view_is (says_given e.store e.log c.args.order.now c.in_ok-answer.answer b.keeps c.in_ok-answer.ensures.found.says)

pub returns-clause-frames : goal.returns-clause-frames
returns-clause-frames c =
    let e = c.self.inside.engine in
    let w = c.solve.new.self in
    let b = c.self.invariant c.if-self.false in
    let before : SolverValue = record { variables = e.trail.variables; given = given_of e.log e.store; kept = kept_of e.log e.store; log = e.log; spent = c.self.inside.spent } in
    let after : SolverValue = record { variables = w.trail.variables; given = given_of w.log w.store; kept = kept_of w.log w.store; log = w.log; spent = false } in
    let P : SolverValue → Type 0 = λ s. AnswersInFrames s after c.args.order.now c.in_ok-answer.answer in
    let same = given_on e.store w.store e.log w.log b.listed.known c.in_ok-answer.ensures.kept in
    subst P c.self.view_is (in_frames e.store before after c.args.order.now e.trail.variables c.args.budget c.in_ok-answer.answer refl refl same b.keeps c.in_ok-answer.ensures.found)

pub returns-clause-new : goal.returns-clause-new
returns-clause-new c =
    let e = c.self.inside.engine in
    let w = c.solve.new.self in
    let b = c.self.invariant c.if-self.false in
    let before : SolverValue = record { variables = e.trail.variables; given = given_of e.log e.store; kept = kept_of e.log e.store; log = e.log; spent = c.self.inside.spent } in
    let after : SolverValue = record { variables = w.trail.variables; given = given_of w.log w.store; kept = kept_of w.log w.store; log = w.log; spent = false } in
    let P : SolverValue → Type 0 = λ s. AreNewOverKept s after c.in_ok-answer.answer in
    subst P c.self.view_is (new_over-kept e.store before after c.args.order.now e.trail.variables c.args.budget c.in_ok-answer.answer refl refl b.keeps c.in_ok-answer.ensures.found)

pub invariant_of-self-2 : goal.invariant_of-self-2
invariant_of-self-2 c = λ _.
    (let e = c.self.inside.engine in
    let w = c.solve.new.self in
    between_on e.store w.store e.propagator w.propagator e.trail w.trail e.kept.items w.kept.items e.log w.log (c.self.invariant c.if-self.false) c.in_ok-answer.ensures.idle
    c.in_ok-answer.ensures.listed c.in_ok-answer.ensures.kept)

pub returns-clause-same : goal.returns-clause-same
returns-clause-same c =
    let e = c.self.inside.engine in
    let w = c.solve.new.self in
    let b = c.self.invariant c.if-self.false in
    let goes-on : SolverValue → SolverValue = λ s. record s { kept = kept_of w.log w.store; log = w.log } in
    let before : SolverValue = record { variables = e.trail.variables; given = given_of e.log e.store; kept = kept_of e.log e.store; log = e.log; spent = c.self.inside.spent } in
    let after : SolverValue = record { variables = w.trail.variables; given = given_of w.log w.store; kept = kept_of w.log w.store; log = w.log; spent = false } in
    let same = given_on e.store w.store e.log w.log b.listed.known c.in_ok-answer.ensures.kept in
    same_value after (goes-on before) c.in_ok-answer.ensures.variables same refl refl (sym c.if-self.false) ∙ ap goes-on c.self.view_is
