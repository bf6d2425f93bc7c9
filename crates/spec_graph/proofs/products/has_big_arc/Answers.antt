use Rattle.std.proofs.Common.{refl, arith}
use Rattle.std.proofs.lemmas.Bool.{false≢true}
use Rattle.spec_graph.specs.Lists.{arc_value}
use Rattle.spec_graph.specs.Refusals.{IsBigOn}
use Rattle.spec_graph.proofs.Mapped.{any_here, any_nowhere}
use Rattle.spec_graph.proofs.products.has_big_arc.Goals as goal

pub returns-then-is_big_on : goal.returns-then-is_big_on
returns-then-is_big_on c =
    (λ _. any_here arc_value (IsBigOn c.args.traffic.now c.args.quantity) c.args.arcs.now c.loop-arc.arc-index _ (omega arith) (c.is_big_on.ensures.0 c.if-is_big_on.true), λ _. refl)

pub returns : goal.returns
returns c = (
  λ e. absurd (false≢true e),
  λ x. absurd (any_nowhere arc_value (IsBigOn c.args.traffic.now c.args.quantity) c.args.arcs.now c.loop-arc.arc-index (omega arith) c.loop-arc.invariant
      (record { link = record { 0 = 0 }; tail = record { 0 = 0 }; head = record { 0 = 0 } }) x),
)
