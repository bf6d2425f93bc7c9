use Rattle.encode_model.specs.Encoding.{has_cause}
use Rattle.route_encode.proofs.Adding.{ones_more}
use Rattle.route_encode.proofs.families.add_resource_causes.Goals as goal

pub loop-t-preserved : goal.loop-t-preserved
loop-t-preserved c = ones_more (has_cause c.args.index.now c.args.m c.args.q) c.loop-t.t c.args.out.now c.loop-t.out c.add_cause.new.out c.loop-t.invariant (c.in_ok-add_cause.ensures {u = tt})
