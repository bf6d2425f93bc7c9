use Rattle.encode_model.specs.Encoding.{covers_allocate}
use Rattle.route_encode.proofs.Adding.{pieces_more}
use Rattle.route_encode.proofs.allocation.add_covers.Goals as goal

pub loop-m-preserved : goal.loop-m-preserved
loop-m-preserved c = pieces_more (covers_allocate c.args.index.now) c.loop-m.m c.args.out.now c.loop-m.out c.add_message_covers.new.out c.loop-m.invariant (c.in_ok-add_message_covers.ensures {u = tt})
