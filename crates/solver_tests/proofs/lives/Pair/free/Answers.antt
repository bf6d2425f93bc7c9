use Rattle.std.proofs.Common.{◌≡◌, List, subst, sym}
use Rattle.constraint_store.specs.Live.{Live}
use Rattle.propagate.specs.Propagator.{IsReady}
use Rattle.propagate.proofs.Ready.{ready_free}
use Rattle.solver_tests.proofs.lives.Pair.free.Goals as goal

pub returns-clause-ready : goal.returns-clause-ready
returns-clause-ready c =
    let s = c.args.self.now in
    let P : List Live → Type 0 = λ ls. IsReady s.propagator ls s.trail in
    subst P (sym c.remove.ensures) (ready_free s.propagator s.store s.trail c.args.id c.requires.ready c.requires.free)
