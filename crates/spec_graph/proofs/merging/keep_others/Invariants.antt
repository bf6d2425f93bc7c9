use Rattle.spec_graph.specs.Merged.{is_unlisted}
use Rattle.spec_graph.proofs.Keeping.{Keeping}
use Rattle.spec_graph.proofs.merging.keep_others.Given as goal

abbrev pub invariant-loop-m : goal.invariant-loop-m
invariant-loop-m l = Keeping (is_unlisted l.listed) l.initial.messages.items l.messages.items l.kept l.m
