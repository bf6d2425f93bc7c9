use Rattle.encode_model.specs.Encoding.{message_part}
use Rattle.route_encode.proofs.Adding.{pieces_more}
use Rattle.route_encode.proofs.add_messages.Goals as goal

pub loop-m-preserved : goal.loop-m-preserved
loop-m-preserved c = pieces_more (message_part c.args.index.now) c.loop-m.m c.args.out.now c.loop-m.out c.add_message.new.out c.loop-m.invariant (c.in_ok-add_message.ensures {u = tt})
