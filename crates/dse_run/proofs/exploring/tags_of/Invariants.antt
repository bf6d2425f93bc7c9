use Rattle.std.proofs.Common.{◌≡◌, map, string_bytes, take}
use Rattle.dse_run.proofs.exploring.tags_of.Given as goal

abbrev pub invariant-loop-i : goal.invariant-loop-i
invariant-loop-i g l = map string_bytes l.tags.items ≡ map (λ t. (goal.Evaluator-dyn g (t.vtable, t.value)).text t.value) (take l.i l.tools)
