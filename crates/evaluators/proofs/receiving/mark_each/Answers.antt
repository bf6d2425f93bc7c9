use Rattle.std.proofs.Common.{◌∙◌}
use Rattle.std.proofs.lemmas.List.{length-set}
use Rattle.evaluators.proofs.Marking.{task_in, mark_task}
use Rattle.evaluators.proofs.receiving.mark_each.Goals as goal

pub bounds-marks-t : goal.bounds-marks-t
bounds-marks-t c = task_in _ _ _ _ _ c.loop-t.invariant.long c.loop-t-test.true c.requires

pub loop-t-preserved : goal.loop-t-preserved
loop-t-preserved c = record {
  long = length-set c.loop-t.marks _ _ ∙ c.loop-t.invariant.long;
  marked = mark_task _ _ _ _ _ c.loop-t-test.true (task_in _ _ _ _ _ c.loop-t.invariant.long c.loop-t-test.true c.requires) c.loop-t.invariant.marked;
}
