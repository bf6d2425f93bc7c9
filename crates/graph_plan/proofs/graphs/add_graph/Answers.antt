use Rattle.graph_plan.proofs.Filling.{ready}
use Rattle.graph_plan.proofs.graphs.add_graph.Goals as goal

pub add_arcs-requires-clause-ready : goal.add_arcs-requires-clause-ready
add_arcs-requires-clause-ready c =
    ready c.args.plan.now c.add_tasks.new.plan c.tasks-first.result c.args.graph.now c.facts.ensures c.requires.room c.tasks-first.ensures.count c.in_ok-add_tasks.ensures
