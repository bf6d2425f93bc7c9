use Rattle.std.proofs.Common.{◌≡◌, ◌++◌, take, map}
use Rattle.graph_plan.specs.Graphs.{deadline_of}
use Rattle.graph_plan.proofs.graphs.add_deadlines.Given as goal

abbrev pub invariant-loop-deadline : goal.invariant-loop-deadline
invariant-loop-deadline l = l.plan ≡ record l.initial.plan { deadlines = l.initial.plan.deadlines ++ map (deadline_of l.clock l.first) (take l.deadline-index l.deadlines) }
