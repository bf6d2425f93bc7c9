use Rattle.spec_model.specs.Spec.{Message}
use Rattle.spec_graph.specs.Merged.{lesser_limit, greater_delay, greater_quantity}
use Rattle.spec_graph.specs.declared.numbers.MsgNo.{MsgNo}
use Rattle.spec_graph.proofs.Parts.{fold_part}
use Rattle.spec_graph.proofs.merging.limits_of.Goals as goal

pub loop-m-preserved : goal.loop-m-preserved
loop-m-preserved c =
    let d : MsgNo = record { 0 = 0 } in
    let m : Message = c.index-messages-m.result in
    let there = c.requires.there c.loop-m.m-index d c.loop-m-test.true in
    record {
      hops = fold_part lesser_limit c.first.inside.hops c.args.messages.now c.args.listed.now c.loop-m.m-index d m c.loop-m.limits.hops c.with_message-limits.result.hops c.loop-m-test.true there
          c.index-messages-m.is c.loop-m.invariant.hops c.with_message-limits.ensures.hops;
      delay = fold_part greater_delay 0 c.args.messages.now c.args.listed.now c.loop-m.m-index d m c.loop-m.limits.delay c.with_message-limits.result.delay c.loop-m-test.true there
          c.index-messages-m.is c.loop-m.invariant.delay c.with_message-limits.ensures.delay;
      quantity = fold_part greater_quantity 0 c.args.messages.now c.args.listed.now c.loop-m.m-index d m c.loop-m.limits.quantity c.with_message-limits.result.quantity c.loop-m-test.true there
          c.index-messages-m.is c.loop-m.invariant.quantity c.with_message-limits.ensures.quantity;
    }
