use Rattle.encode_model.specs.Encoding.{carries}
use Rattle.route_encode.proofs.Adding.{ones_more}
use Rattle.route_encode.proofs.families.add_carries.Goals as goal

pub loop-t-preserved : goal.loop-t-preserved
loop-t-preserved c = ones_more (carries c.args.index.now c.args.m c.args.a) c.loop-t.t c.args.out.now c.loop-t.out c.add_carry.new.out c.loop-t.invariant (c.in_ok-add_carry.ensures {u = tt})
