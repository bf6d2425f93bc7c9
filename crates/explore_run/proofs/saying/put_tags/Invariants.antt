use Rattle.std.proofs.Common.{◌≡◌, ◌++◌, take, map}
use Rattle.explore_run.specs.Words.{spaced}
use Rattle.explore_run.specs.Tools.{tags_at}
use Rattle.explore_run.proofs.saying.put_tags.Given as goal

abbrev pub invariant-loop-i : goal.invariant-loop-i
invariant-loop-i g l = l.out.items ≡ l.fn.out.items ++ spaced (take l.i (tags_at (map (λ t. (goal.Evaluator-dyn g (t.vtable, t.value)).text t.value) l.tools) l.chosen))
