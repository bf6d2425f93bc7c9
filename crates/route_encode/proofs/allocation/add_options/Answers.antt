use Rattle.encode_model.specs.Encoding.{option_allocates}
use Rattle.route_encode.proofs.Adding.{ones_more}
use Rattle.route_encode.proofs.allocation.add_options.Goals as goal

pub loop-o-preserved : goal.loop-o-preserved
loop-o-preserved c =
    ones_more (option_allocates c.args.index.now) c.loop-o.o c.args.out.now c.loop-o.out c.add_option_allocates.new.out c.loop-o.invariant (c.in_ok-add_option_allocates.ensures {u = tt})
