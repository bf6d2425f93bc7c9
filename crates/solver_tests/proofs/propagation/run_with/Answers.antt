use Rattle.std.proofs.Common.{rules, get_or, IsTrue}
use Rattle.pb_constraints.specs.declared.ConId.{ConId}
use Rattle.constraint_store.specs.Live.{is_live}
use Rattle.propagate.proofs.Ready.{ready_attach}
use Rattle.solver_tests.proofs.propagation.run_with.Goals as goal

abbrev none : ConId
none = record { 0 = 0 }

pub loop-id-preserved : goal.loop-id-preserved
loop-id-preserved g c =
    let id = get_or c.args.ids.now c.loop-id.id-index none in
    let live : IsTrue (is_live c.args.store.now id) = search rules in
    ready_attach c.loop-id.propagator c.attach.new.self c.args.store.now c.grow.new.self id c.loop-id.invariant live c.in_ok-attach.ensures.ok c.attach.ensures.variables c.attach.ensures.counted
