use Rattle.encode_model.specs.Encoding.{link_has_use}
use Rattle.route_encode.proofs.Adding.{ones_more}
use Rattle.route_encode.proofs.allocation.add_links.Goals as goal

pub loop-l-preserved : goal.loop-l-preserved
loop-l-preserved c = ones_more (link_has_use c.args.index.now) c.loop-l.l c.args.out.now c.loop-l.out c.add_link_has_use.new.out c.loop-l.invariant (c.in_ok-add_link_has_use.ensures {u = tt})
