use Rattle.std.proofs.Common.{sym, subst}
use Rattle.constraint_store.specs.Live.{Live}
use Rattle.ordered_solver.specs.Solver.{SolverValue, IsGivenId}
use Rattle.ordered_solver.proofs.Between.{between_given}
use Rattle.ordered_solver.proofs.solver.Solver.add_constraint.Goals as goal

pub invariant_of-self-2 : goal.invariant_of-self-2
invariant_of-self-2 c = λ _.
    (let b = c.self.invariant c.if-self.false in
    let e = c.self.inside.engine in
    let w = c.add.new.self in
    let x : Live = record { id = c.in_ok-add.field-0; constraint = c.in_ok-copied.copied; proof_id = c.args.proof_id } in
    let g : IsGivenId e.log c.args.proof_id = subst (λ (v : SolverValue). IsGivenId v.log c.args.proof_id) (sym c.self.view_is) c.requires.given in
    let a = c.in_ok-add.ensures in
    between_given e.store w.store e.propagator w.propagator e.trail w.trail e.kept.items w.kept.items e.log w.log x b g a.added a.loaded a.trail a.kept a.log)
