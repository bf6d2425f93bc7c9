use Rattle.encode_model.specs.Encoding.{covered_once}
use Rattle.route_encode.proofs.Adding.{pieces_more}
use Rattle.route_encode.proofs.families.add_covers.Goals as goal

pub loop-r-preserved : goal.loop-r-preserved
loop-r-preserved c =
    pieces_more (covered_once c.args.index.now c.args.m) c.loop-r.r c.args.out.now c.loop-r.out c.add_covered_once.new.out c.loop-r.invariant (c.in_ok-add_covered_once.ensures {u = tt})
