use Rattle.std.proofs.Common.{ℕ, sym, ap, ◌∙◌, subst, arith, map}
use Rattle.std.specs.Prelude.{Any}
use Rattle.std.proofs.lemmas.Bool.{false≢true}
use Rattle.spec_model.specs.Spec.{Message}
use Rattle.spec_graph.specs.Lists.{arc_value}
use Rattle.spec_graph.specs.Refusals.{IsBigOn, CarriesTooMuch}
use Rattle.spec_graph.proofs.Mapped.{none_more, none_at_all}
use Rattle.spec_graph.proofs.products.has_big_message.Goals as goal

pub loop-message-preserved : goal.loop-message-preserved
loop-message-preserved c =
    none_more (CarriesTooMuch c.args.traffic.now (map arc_value c.args.arcs.now)) c.args.messages.now c.loop-message.message-index c.message-item.result (omega arith) c.message-item.is
    c.loop-message.invariant
    (λ h. false≢true (sym c.if-has_big_arc.false ∙ c.has_big_arc.ensures.1 (subst (λ (q : ℕ). Any (IsBigOn c.args.traffic.now q) (map arc_value c.args.arcs.now))
    (sym (ap (λ (m : Message). m.quantity) c.message.view_is)) h)))

pub returns : goal.returns
returns c = (
  λ e. absurd (false≢true e),
  λ x. absurd (none_at_all (CarriesTooMuch c.args.traffic.now (map arc_value c.args.arcs.now)) c.args.messages.now c.loop-message.message-index (omega arith)
      c.loop-message.invariant x),
)
