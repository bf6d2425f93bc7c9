use Rattle.encode_model.specs.Encoding.{arcs_allocate}
use Rattle.route_encode.proofs.Adding.{pieces_more}
use Rattle.route_encode.proofs.allocation.add_arcs.Goals as goal

pub loop-m-preserved : goal.loop-m-preserved
loop-m-preserved c = pieces_more (arcs_allocate c.args.index.now) c.loop-m.m c.args.out.now c.loop-m.out c.add_message_arcs.new.out c.loop-m.invariant (c.in_ok-add_message_arcs.ensures {u = tt})
