use Rattle.encode_model.specs.Encoding.{cover_allocates}
use Rattle.route_encode.proofs.Adding.{ones_more}
use Rattle.route_encode.proofs.allocation.add_message_covers.Goals as goal

pub loop-r-preserved : goal.loop-r-preserved
loop-r-preserved c =
    ones_more (cover_allocates c.args.index.now c.args.m) c.loop-r.r c.args.out.now c.loop-r.out c.add_cover_allocates.new.out c.loop-r.invariant (c.in_ok-add_cover_allocates.ensures {u = tt})
