use Rattle.std.proofs.Common.{rules, arith}
use Rattle.std.proofs.lemmas.Grind.{common_steps}
use Rattle.route_encode.proofs.Rows.{receiver_there}
use Rattle.route_encode.proofs.families.add_receivers.Goals as goal

pub add_receiver_covered-requires-clause-receiver : goal.add_receiver_covered-requires-clause-receiver
add_receiver_covered-requires-clause-receiver c = receiver_there c.args.index.now c.spec-spec.result.now c.args.m c.receivers-receivers.result.now c.loop-w.w-index (record { 0 = 0 })
    c.spec-spec.ensures c.facts.ensures c.requires.message c.receivers-receivers.ensures (first_of (search rules, grind (arith, common_steps)))
