use Rattle.encode_model.specs.Encoding.{arc_carries}
use Rattle.route_encode.proofs.Adding.{pieces_more}
use Rattle.route_encode.proofs.families.add_carried.Goals as goal

pub loop-a-preserved : goal.loop-a-preserved
loop-a-preserved c = pieces_more (arc_carries c.args.index.now c.args.m) c.loop-a.a c.args.out.now c.loop-a.out c.add_arc_carries.new.out c.loop-a.invariant (c.in_ok-add_arc_carries.ensures {u = tt})
