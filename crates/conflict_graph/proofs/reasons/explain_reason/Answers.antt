use Rattle.std.proofs.Common.{refl, take}
use Rattle.constraint_store.specs.Live.{constraint_of, proof_id_of}
use Rattle.trail_state.specs.Trail.{value_in}
use Rattle.pb_rules.specs.Partial.{flipped}
use Rattle.conflict_graph.proofs.Writing.{reason_ops}
use Rattle.conflict_graph.proofs.reasons.explain_reason.Goals as goal

pub returns-clause-ops : goal.returns-clause-ops
returns-clause-ops c =
    let a = flipped (value_in (take c.args.place c.args.trail.now.entries)) c.args.lit in
    reason_ops (proof_id_of c.args.store.now c.args.c) (constraint_of c.args.store.now c.args.c) a a c.args.ops.now.items c.explain.new.ops.items c.push.new.self.items c.push-2.new.self.items refl
    c.in_ok-explain.ensures.written c.in_ok-push.ensures.items c.in_ok-push-2.ensures.items
