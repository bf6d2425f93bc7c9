use Rattle.std.proofs.Common.{◌<◌, ℕ, get_or}
use Rattle.spec_graph.specs.Lists.{arc_value}
use Rattle.spec_graph.specs.Refusals.{IsBigOn}
use Rattle.spec_graph.specs.declared.numbers.Arc.{Arc}
use Rattle.spec_graph.proofs.products.has_big_arc.Given as goal

abbrev pub invariant-loop-arc : goal.invariant-loop-arc
invariant-loop-arc l = (k : ℕ) (d : Arc) → k < l.arc-index → IsBigOn l.traffic l.quantity (arc_value (get_or l.arcs k d)) → ⊥
