use Rattle.std.proofs.Common.{take}
use Rattle.graph_plan.proofs.Filling.{IsFilled}
use Rattle.graph_plan.proofs.graphs.with_graphs.Given as goal

abbrev pub invariant-loop-graph : goal.invariant-loop-graph
invariant-loop-graph l = IsFilled l.clock l.initial.filled (take l.graph-index l.graphs) l.filled
