use Rattle.std.proofs.Common.{◌≡◌, map}
use Rattle.spec_graph.specs.Lists.{message_number}
use Rattle.spec_graph.specs.Merged.{unlisted}
use Rattle.spec_join.specs.Quantities.{message_kind_at}
use Rattle.spec_join.proofs.joiner.Joiner.merged_kinds.Given as goal

abbrev pub invariant-loop-m : goal.invariant-loop-m
invariant-loop-m l = l.kinds.items ≡ map (message_kind_at l.self.message_kinds) (unlisted (map message_number l.listed) l.m)
