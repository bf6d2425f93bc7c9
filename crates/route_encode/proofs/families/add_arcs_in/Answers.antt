use Rattle.encode_model.specs.Encoding.{one_arc_in}
use Rattle.route_encode.proofs.Adding.{pieces_more}
use Rattle.route_encode.proofs.families.add_arcs_in.Goals as goal

pub loop-r-preserved : goal.loop-r-preserved
loop-r-preserved c = pieces_more (one_arc_in c.args.index.now c.args.m) c.loop-r.r c.args.out.now c.loop-r.out c.add_one_arc_in.new.out c.loop-r.invariant (c.in_ok-add_one_arc_in.ensures {u = tt})
