use Rattle.std.proofs.Common.{◌<◌, ℕ, get_or, map}
use Rattle.spec_model.specs.Spec.{Message}
use Rattle.spec_graph.specs.Lists.{arc_value}
use Rattle.spec_graph.specs.Refusals.{CarriesTooMuch}
use Rattle.spec_graph.proofs.products.has_big_message.Given as goal

abbrev pub invariant-loop-message : goal.invariant-loop-message
invariant-loop-message l = (k : ℕ) (d : Message) → k < l.message-index → CarriesTooMuch l.traffic (map arc_value l.arcs) (get_or l.messages k d) → ⊥
