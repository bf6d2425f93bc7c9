use Rattle.std.proofs.Common.{◌∙◌, sym, arith}
use Rattle.std.proofs.lemmas.Bool.{eqb-true, eqb-false}
use Rattle.spec_model.specs.Spec.{bits_of}
use Rattle.evaluators.proofs.Choosing.{chosen_here, on_here, not_chosen, of_other, some_chosen}
use Rattle.evaluators.proofs.binding.chosen_option.Goals as goal
use Rattle.evaluators.proofs.binding.chosen_option.Goals.{else-eq-via-then-eq+else-get, else-eq-via-else-eq}

pub returns-then-get-clause-option : goal.returns-then-get-clause-option
returns-then-get-clause-option c =
    chosen_here c.args.spec.now (bits_of c.args.design.now) c.args.t.0 c.loop-o.o c.loop-o.invariant (omega arith) (sym c.option.ensures.task ∙ eqb-true _ _ (sym c.eq.ensures ∙ c.if-eq.true))
    (sym c.get.ensures ∙ c.if-get.true)

pub returns-then-get-clause-on : goal.returns-then-get-clause-on
returns-then-get-clause-on c =
    on_here c.args.spec.now (bits_of c.args.design.now) c.args.t.0 c.loop-o.o c.loop-o.invariant (omega arith) (sym c.option.ensures.task ∙ eqb-true _ _ (sym c.eq.ensures ∙ c.if-eq.true))
    (sym c.get.ensures ∙ c.if-get.true)

pub loop-o-preserved : goal.loop-o-preserved
loop-o-preserved c =
    elim c.else-eq.branch [
      | else-eq-via-then-eq+else-get w ↦ not_chosen c.args.spec.now (bits_of c.args.design.now) c.args.t.0 c.loop-o.o c.loop-o.invariant (sym w.get.ensures ∙ w.if-get.false)
      | else-eq-via-else-eq w ↦ of_other c.args.spec.now (bits_of c.args.design.now) c.args.t.0 c.loop-o.o c.loop-o.invariant
          (λ same. eqb-false _ _ (sym c.eq.ensures ∙ w.if-eq.false) (c.option.ensures.task ∙ same))
    ]

pub returns-clause-option : goal.returns-clause-option
returns-clause-option c = absurd (some_chosen c.args.spec.now (bits_of c.args.design.now) c.args.t.0 c.loop-o.o (omega arith) c.loop-o.invariant c.requires.once)

pub returns-clause-on : goal.returns-clause-on
returns-clause-on c = absurd (some_chosen c.args.spec.now (bits_of c.args.design.now) c.args.t.0 c.loop-o.o (omega arith) c.loop-o.invariant c.requires.once)
