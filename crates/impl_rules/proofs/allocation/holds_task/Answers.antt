use Rattle.std.proofs.Common.{arith, rules}
use Rattle.impl_rules.proofs.allocation.holds_task.Goals as goal

pub returns-then-get : goal.returns-then-get
returns-then-get c =
    let in_range = c.loop-o-test.true in
    let there = c.option.ensures.task_there in (
      λ e. record {
        task = c.option.result.task.0;
        in_range = there;
        on = record {
          choice = c.loop-o.o;
          in_range = omega (arith, in_range);
          chosen = search rules;
          of_task =
              search rules;
          on_resource = search rules;
        };
      },
      λ x. search rules,
    )
