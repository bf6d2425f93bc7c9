use Rattle.encode_model.specs.Encoding.{steps_have_cause}
use Rattle.route_encode.proofs.Adding.{pieces_more}
use Rattle.route_encode.proofs.families.add_causes.Goals as goal

pub loop-q-preserved : goal.loop-q-preserved
loop-q-preserved c =
    pieces_more (steps_have_cause c.args.index.now c.args.m) c.loop-q.q c.args.out.now c.loop-q.out c.add_resource_causes.new.out c.loop-q.invariant (c.in_ok-add_resource_causes.ensures {u = tt})
