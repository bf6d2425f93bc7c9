use Rattle.encode_model.specs.Encoding.{one_option}
use Rattle.route_encode.proofs.Adding.{pieces_more}
use Rattle.route_encode.proofs.add_tasks.Goals as goal

pub loop-t-preserved : goal.loop-t-preserved
loop-t-preserved c = pieces_more (one_option c.args.index.now) c.loop-t.t c.args.out.now c.loop-t.out c.add_one_option.new.out c.loop-t.invariant (c.in_ok-add_one_option.ensures {u = tt})
