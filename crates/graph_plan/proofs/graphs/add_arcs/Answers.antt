use Rattle.std.proofs.Common.{List, Contains, map, refl, sym, subst, arith}
use Rattle.spec_model.specs.Spec.{SpecValue}
use Rattle.spec_model.specs.WellFormed.{AreDistinct, HasCycle}
use Rattle.spec_graph.specs.Refusals.{ClosesCycle}
use Rattle.tgff_reader.specs.Facts.{arc_name}
use Rattle.tgff_reader.specs.Reaching.{messages_of}
use Rattle.tgff_reader.specs.declared.file.TgffArc.{TgffArc}
use Rattle.graph_plan.specs.Graphs.{arc_in, planned_message}
use Rattle.graph_plan.proofs.Naming.{new_name}
use Rattle.graph_plan.proofs.Shifting.{never_closes}
use Rattle.graph_plan.proofs.graphs.add_arcs.Goals as goal

pub add_arc-requires-clause-new : goal.add_arc-requires-clause-new
add_arc-requires-clause-new c =
    let g = c.args.graph.now in
    let arc = c.arc-item.result in
    let arcs = c.list-arcs.result.now in
    let distinct : AreDistinct (map arc_name arcs) = subst (λ (xs : List TgffArc). AreDistinct (map arc_name xs)) (sym c.list-arcs.ensures) c.requires.graph.arcs_distinct in
    subst (λ (p : SpecValue). Contains p.message_names (arc_in g.index arc) → ⊥) (sym c.loop-arc.invariant)
    (new_name arc_name (arc_in g.index) g.index c.args.plan.now.message_names arcs c.loop-arc.arc-index arc (λ a. refl) c.requires.graph.index c.requires.ready.new distinct (omega arith)
    c.arc-item.is)

pub add_arc-requires-clause-free : goal.add_arc-requires-clause-free
add_arc-requires-clause-free c =
    let arc = c.arc-item.result in
    let arcs = c.list-arcs.result.now in
    let none : HasCycle (messages_of arcs) → ⊥ = subst (λ (xs : List TgffArc). HasCycle (messages_of xs) → ⊥) (sym c.list-arcs.ensures) c.requires.graph.no_cycle in
    subst (λ (p : SpecValue). ClosesCycle p (planned_message c.args.first arc) → ⊥) (sym c.loop-arc.invariant)
    (never_closes c.args.first c.args.plan.now.messages arcs c.loop-arc.arc-index arc c.requires.ready.before none (omega arith) c.arc-item.is)
