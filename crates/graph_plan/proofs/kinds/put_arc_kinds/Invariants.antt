use Rattle.std.proofs.Common.{◌≡◌, ◌++◌, take, map}
use Rattle.graph_plan.specs.Graphs.{kind_of_arc}
use Rattle.graph_plan.proofs.kinds.put_arc_kinds.Given as goal

abbrev pub invariant-loop-arc : goal.invariant-loop-arc
invariant-loop-arc l = l.kinds.items ≡ l.initial.kinds.items ++ map kind_of_arc (take l.arc-index l.arcs)
