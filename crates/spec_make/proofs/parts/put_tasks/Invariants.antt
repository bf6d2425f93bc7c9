use Rattle.std.proofs.Common.{◌≡◌, ◌++◌, ◌∷◌, map}
use Rattle.std.specs.List.{flat_map}
use Rattle.spec_model.specs.Spec.{below}
use Rattle.spelled_lines.specs.Lines.{spelled}
use Rattle.spec_make.specs.Made.{hops_words, task_words}
use Rattle.spec_make.proofs.parts.put_tasks.Given as goal

abbrev pub invariant-loop-i : goal.invariant-loop-i
invariant-loop-i l = l.text.items ≡ l.fn.text.items ++ flat_map spelled (hops_words l.side ∷ map task_words (below l.i))
