use Rattle.encode_model.specs.Encoding.{arc_allocates}
use Rattle.route_encode.proofs.Adding.{ones_more}
use Rattle.route_encode.proofs.allocation.add_message_arcs.Goals as goal

pub loop-a-preserved : goal.loop-a-preserved
loop-a-preserved c =
    ones_more (arc_allocates c.args.index.now c.args.m) c.loop-a.a c.args.out.now c.loop-a.out c.add_arc_allocates.new.out c.loop-a.invariant (c.in_ok-add_arc_allocates.ensures {u = tt})
