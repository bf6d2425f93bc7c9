use Rattle.encode_model.specs.Encoding.{sender_start}
use Rattle.route_encode.proofs.Adding.{pieces_more}
use Rattle.route_encode.proofs.families.add_starts.Goals as goal

pub loop-r-preserved : goal.loop-r-preserved
loop-r-preserved c =
    pieces_more (sender_start c.args.index.now c.args.m) c.loop-r.r c.args.out.now c.loop-r.out c.add_sender_start.new.out c.loop-r.invariant (c.in_ok-add_sender_start.ensures {u = tt})
