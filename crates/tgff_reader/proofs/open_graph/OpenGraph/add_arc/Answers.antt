use Rattle.std.proofs.Common.{◌≡◌, ℕ, List, sym, subst, arith}
use Rattle.task_order.specs.Order.{is_in}
use Rattle.tgff_reader.specs.Reaching.{reaches, IsOrder}
use Rattle.tgff_reader.specs.declared.file.Graph.{Graph}
use Rattle.tgff_reader.specs.declared.file.TgffArc.{TgffArc}
use Rattle.tgff_reader.proofs.Reached.{order_more}
use Rattle.tgff_reader.proofs.open_graph.OpenGraph.add_arc.Goals as goal

pub invariant_of-self-2 : goal.invariant_of-self-2
invariant_of-self-2 c =
    let graph = c.self.inside.graph in
    let reached : (b : ℕ) → is_in c.args.reached.now b ≡ reaches graph.arcs c.args.arc.to b
    = subst (λ (g : Graph). (b : ℕ) → is_in c.args.reached.now b ≡ reaches g.arcs c.args.arc.to b) (sym c.self.view_is) c.requires.reached in
    let next : IsOrder c.join.new.self c.push.new.self
    = subst (λ (arcs : List TgffArc). IsOrder c.join.new.self arcs) (sym c.in_ok-push.ensures.pushed)
    (order_more c.self.inside.order c.join.new.self c.args.reached.now graph.arcs c.args.arc c.self.invariant.0 reached c.join.ensures.joined) in
    (next, omega (arith, c.join.ensures.kept, c.self.invariant.1), c.self.invariant.2)
