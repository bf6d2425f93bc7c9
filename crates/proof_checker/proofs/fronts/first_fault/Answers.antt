use Rattle.std.proofs.Common.{arith, ap, length}
use Rattle.std.proofs.lemmas.List.{length-map}
use Rattle.result_text.specs.Answers.{as_seen}
use Rattle.result_text.specs.Fronts.{front_of}
use Rattle.proof_checker.proofs.Loops.{item_shaped}
use Rattle.proof_checker.proofs.Orders.{shaped_long, one_more_fine, fault_of_entry, claim_of}
use Rattle.proof_checker.proofs.fronts.first_fault.Goals as goal

pub entry_fault-requires-clause-shaped : goal.entry_fault-requires-clause-shaped
entry_fault-requires-clause-shaped c =
    let es = c.list-entries.result.now in
    item_shaped c.args.spec.now c.args.front.now.entries es c.loop-i.i c.index-entries-i.result c.list-entries.ensures c.requires
    (omega (arith, ap length c.list-entries.ensures, length-map es as_seen)) c.index-entries-i.is

pub entry_fault-requires-clause-long : goal.entry_fault-requires-clause-long
entry_fault-requires-clause-long c = shaped_long c.args.spec.now (front_of c.args.front.now) c.list-entries.result.now c.loop-i.i c.list-entries.ensures c.requires

pub returns-in-Some-clause-fault : goal.returns-in-Some-clause-fault
returns-in-Some-clause-fault c =
    fault_of_entry c.args.spec.now (front_of c.args.front.now) c.list-entries.result.now c.loop-i.i c.index-entries-i.result c.in-Some.why c.list-entries.ensures (omega arith) c.index-entries-i.is
    c.in-Some.ensures c.loop-i.invariant

pub loop-i-preserved : goal.loop-i-preserved
loop-i-preserved c =
    one_more_fine c.args.spec.now (front_of c.args.front.now) c.list-entries.result.now c.loop-i.i c.index-entries-i.result c.list-entries.ensures (omega arith) c.index-entries-i.is
    c.loop-i.invariant c.in_default.ensures

pub returns-clause-claim : goal.returns-clause-claim
returns-clause-claim c =
    let es = c.list-entries.result.now in
    claim_of c.args.spec.now (front_of c.args.front.now) (λ k d l. c.loop-i.invariant k d (omega (arith, l, ap length c.list-entries.ensures, length-map es as_seen))) c.if-not-front.false
