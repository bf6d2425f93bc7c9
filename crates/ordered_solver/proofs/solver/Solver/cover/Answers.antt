use Rattle.std.proofs.Common.{◌∙◌, List, [], ◌∷◌, ◌++◌, false, refl, sym, ap}
use Rattle.pb_rules.specs.Frames.{Line, cover}
use Rattle.ordered_solver.specs.Engines.{given_of, kept_of}
use Rattle.ordered_solver.specs.Solver.{SolverValue}
use Rattle.ordered_solver.proofs.Between.{between_cover, later_parts, same_value}
use Rattle.ordered_solver.proofs.solver.Solver.cover.Goals as goal

pub invariant_of-self-2 : goal.invariant_of-self-2
invariant_of-self-2 c = λ _.
    (let e = c.self.inside.engine in
    between_cover e.store e.propagator e.trail e.kept.items e.log c.cover.new.self c.args.v.now (c.self.invariant c.if-self.false) c.in_ok-id.ensures.ok)

pub returns-clause-ok : goal.returns-clause-ok
returns-clause-ok c =
    let e = c.self.inside.engine in
    let new = c.cover.new.self in
    let more : List Line = cover c.args.v.now ∷ [] in
    let parts = later_parts e.log new more e.store c.in_ok-id.ensures.ok (c.self.invariant c.if-self.false).listed.known in
    let with-cover : SolverValue → SolverValue = λ s. record s { log = record s.log { lines = s.log.lines ++ more } } in
    let before : SolverValue = record { variables = e.trail.variables; given = given_of e.log e.store; kept = kept_of e.log e.store; log = e.log; spent = c.self.inside.spent } in
    let after : SolverValue = record { variables = e.trail.variables; given = given_of new e.store; kept = kept_of new e.store; log = new; spent = false } in
    same_value after (with-cover before) refl parts.0 parts.1 c.in_ok-id.ensures.ok (sym c.if-self.false) ∙ ap with-cover c.self.view_is
