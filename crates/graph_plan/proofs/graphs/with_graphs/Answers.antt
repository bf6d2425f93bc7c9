use Rattle.std.proofs.Common.{◌≡◌, ap, ◌∙◌, arith}
use Rattle.tgff_reader.specs.Facts.{TgffValue}
use Rattle.graph_plan.proofs.Filling.{room_for, filled_more}
use Rattle.graph_plan.proofs.graphs.with_graphs.Goals as goal

pub add_graph-requires-clause-room : goal.add_graph-requires-clause-room
add_graph-requires-clause-room c =
    let graphs : c.list-graphs.result.now ≡ c.args.tgff.now.graphs = c.list-graphs.ensures ∙ ap (λ (f : TgffValue). f.graphs) c.tgff.view_is in
    room_for c.args.tgff.now c.list-graphs.result.now c.args.clock c.args.plan c.loop-graph.graph-index c.graph-item.result c.loop-graph.filled c.facts.ensures graphs c.loop-graph.invariant
    (omega arith) c.graph-item.is

pub loop-graph-preserved : goal.loop-graph-preserved
loop-graph-preserved c =
    filled_more c.args.clock c.args.plan c.list-graphs.result.now c.loop-graph.graph-index c.graph-item.result c.loop-graph.filled c.add_graph.new.plan c.loop-graph.invariant (omega arith)
    c.graph-item.is c.in_ok-add_graph.ensures
