use Rattle.encode_model.specs.Encoding.{resource_has_use}
use Rattle.route_encode.proofs.Adding.{ones_more}
use Rattle.route_encode.proofs.allocation.add_resources.Goals as goal

pub loop-r-preserved : goal.loop-r-preserved
loop-r-preserved c =
    ones_more (resource_has_use c.args.index.now) c.loop-r.r c.args.out.now c.loop-r.out c.add_resource_has_use.new.out c.loop-r.invariant (c.in_ok-add_resource_has_use.ensures {u = tt})
