use Rattle.spec_model.specs.Spec.{bits_of}
use Rattle.evaluators.proofs.Timing.{arrival_is}
use Rattle.evaluators.proofs.timetable.arrival.Goals as goal

pub returns-clause-time : goal.returns-clause-time
returns-clause-time c slots are =
    arrival_is c.args.spec.now (bits_of c.args.design.now) slots c.args.r.0 c.args.m.0 c.sender-sender.result.0 _ c.delay.result c.walk_length-hops.result (are _ c.sender-sender.ensures.there)
    c.sender-sender.ensures.sender c.delay.ensures.delay c.walk_length-hops.ensures.length
