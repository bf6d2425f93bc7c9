use Rattle.sat_decoder.proofs.Standing.{solver_new}
use Rattle.sat_decoder.proofs.decoder.Decoder.new.Goals as goal

pub invariant_of-result : goal.invariant_of-result
invariant_of-result c new =
    solver_new c.args.spec.now c.in_ok-set.set c.in_ok-solver.solver c.in_ok-set.ensures.variables c.in_ok-set.ensures.constraints c.in_ok-solver.ensures.few c.in_ok-solver.ensures.ok
