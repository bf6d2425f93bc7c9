use Rattle.std.proofs.Common.{◌≡◌, ◌∙◌, ◌+◌, ℕ, List, [], ap, arith, length, false, refl}
use Rattle.pb_rules.specs.Linear.{Linear}
use Rattle.proof_log.specs.Log.{LogValue}
use Rattle.ordered_solver.specs.Engines.{given_of, kept_of}
use Rattle.ordered_solver.specs.Solver.{SolverValue, numbered}
use Rattle.ordered_solver.proofs.Between.{between_new, new_parts, same_value}
use Rattle.ordered_solver.proofs.solver.Solver.new.Goals as goal

pub invariant_of-result : goal.invariant_of-result
invariant_of-result c = λ _.
    (let e = c.load.new.self in
    let cs : List Linear = c.into_constraints-constraints.result.items in
    let many : c.len.result ≡ length cs = omega arith in
    let fresh : ℕ → LogValue = λ n. record { first = n + 1; lines = [] } in
    between_new e.store e.propagator e.trail e.kept.items e.log cs c.in_ok-load.ensures.idle (c.in_ok-load.ensures.kept ∙ c.in_ok-engine.ensures.none_kept)
    (c.load.ensures.log ∙ c.in_ok-engine.ensures.log ∙ ap fresh many) c.in_ok-load.ensures.given)

pub returns-clause-ok : goal.returns-clause-ok
returns-clause-ok c =
    let e = c.load.new.self in
    let set = c.args.set in
    let cs : List Linear = c.into_constraints-constraints.result.items in
    let value = c.into_constraints-constraints.ensures.value in
    let many : c.len.result ≡ length cs = omega arith in
    let fresh : ℕ → LogValue = λ n. record { first = n + 1; lines = [] } in
    let log : e.log ≡ fresh (length set.constraints) = c.load.ensures.log ∙ c.in_ok-engine.ensures.log ∙ ap fresh (many ∙ ap length value) in
    let parts = new_parts e.log e.store set.constraints (ap (λ (v : LogValue). v.lines) log) (c.in_ok-load.ensures.given ∙ ap (numbered 1) value) in
    let made : SolverValue = record { variables = e.trail.variables; given = given_of e.log e.store; kept = kept_of e.log e.store; log = e.log; spent = false } in
    let wanted : SolverValue = record { variables = set.variables; given = numbered 1 set.constraints; kept = []; log = fresh (length set.constraints); spent = false } in
    same_value made wanted (c.load.ensures.variables ∙ c.in_ok-engine.ensures.variables ∙ c.variables-variables.ensures.value) parts.0 parts.1 log refl
