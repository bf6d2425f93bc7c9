use Rattle.std.proofs.Common.{◌<◌, length, arith, rules}
use Rattle.spec_graph.specs.Lists.{task_number}
use Rattle.spec_graph.specs.declared.numbers.TaskNo.{TaskNo}
use Rattle.spec_join.proofs.Listing.{numbers_more, there_more, known_more, all_known}
use Rattle.spec_join.proofs.Refusing.{there_of}
use Rattle.spec_join.proofs.joiner.Joiner.tasks_of.Goals as goal

pub loop-name-preserved : goal.loop-name-preserved
loop-name-preserved c =
    let p = c.args.self.now.plan in
    let items = c.loop-name.tasks.items in
    let new = c.push.new.self.items in
    let item = c.in-Some.task in
    let i = c.loop-name.name-index in
    let name = c.name-item.result in
    let said = c.list.result.now in
    record {
      numbers =
          numbers_more task_number p.tasks c.args.names.now i items new item name said (omega arith) c.in_ok-push-in-Some.ensures.items c.name-item.is c.list.ensures c.in-Some.ensures.first
          c.loop-name.invariant.numbers;
      many = search rules;
      there = there_more (λ (t : TaskNo). t.0 < length c.args.self.now.plan.tasks) items new item c.in_ok-push-in-Some.ensures.items c.loop-name.invariant.there c.in-Some.ensures.within;
      known = known_more p.tasks c.args.names.now i name said (omega arith) c.name-item.is c.list.ensures (there_of p.tasks said item.0 c.in-Some.ensures) c.loop-name.invariant.known;
    }

pub returns-clause-known : goal.returns-clause-known
returns-clause-known c = all_known c.args.self.now.plan.tasks c.args.names.now c.loop-name.name-index (omega arith) c.loop-name.invariant.known
