use Rattle.encode_model.specs.Encoding.{no_dangling}
use Rattle.route_encode.proofs.Adding.{pieces_more}
use Rattle.route_encode.proofs.families.add_ends.Goals as goal

pub loop-r-preserved : goal.loop-r-preserved
loop-r-preserved c = pieces_more (no_dangling c.args.index.now c.args.m) c.loop-r.r c.args.out.now c.loop-r.out c.add_no_dangling.new.out c.loop-r.invariant (c.in_ok-add_no_dangling.ensures {u = tt})
