use Rattle.std.proofs.Common.{◌≡◌, take}
use Rattle.graph_plan.specs.Graphs.{message_kinds}
use Rattle.graph_plan.proofs.kinds.message_kinds.Given as goal

abbrev pub invariant-loop-graph : goal.invariant-loop-graph
invariant-loop-graph l = l.kinds.items ≡ message_kinds (take l.graph-index l.graphs)
