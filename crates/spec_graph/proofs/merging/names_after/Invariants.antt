use Rattle.std.proofs.Common.{◌≡◌, map}
use Rattle.spec_model.specs.Spec.{name_at}
use Rattle.spec_graph.specs.Merged.{unlisted}
use Rattle.spec_graph.proofs.merging.names_after.Given as goal

abbrev pub invariant-loop-m : goal.invariant-loop-m
invariant-loop-m l = l.after ≡ map (name_at l.names) (unlisted l.listed l.m)
