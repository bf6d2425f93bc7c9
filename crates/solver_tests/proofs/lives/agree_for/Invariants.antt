use Rattle.propagate.specs.Propagator.{IsReady}
use Rattle.solver_tests.proofs.lives.agree_for.Given as goal

abbrev pub invariant-loop-made : goal.invariant-loop-made
invariant-loop-made l = IsReady l.pair.propagator l.pair.store l.pair.trail
