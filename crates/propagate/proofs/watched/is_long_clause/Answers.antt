use Rattle.std.proofs.Common.{◌≡◌, ◌∙◌, subst}
use Rattle.std.proofs.lemmas.List.Elements.{All-nil, All-more}
use Rattle.pb_rules.specs.declared.Term.{Term}
use Rattle.propagate.proofs.Watching.{all_done}
use Rattle.propagate.proofs.watched.is_long_clause.Goals as goal

pub loop-t-init : goal.loop-t-init
loop-t-init c = All-nil (λ (t : Term). t.coef ≡ c.args.c.now.degree)

pub loop-t-preserved : goal.loop-t-preserved
loop-t-preserved c =
    let P : Term → Type 0 = λ t. t.coef ≡ c.args.c.now.degree in
    All-more P c.terms-terms.result.now c.loop-t.t-index c.t-item.result c.loop-t-test.true c.loop-t.invariant (subst P c.t-item.is (c.if-t-degree.false ∙ c.degree.ensures.value))

pub returns : goal.returns
returns c e =
    let P : Term → Type 0 = λ t. t.coef ≡ c.args.c.now.degree in
    all_done P c.terms-terms.result.now c.args.c.now.terms c.loop-t.t-index c.loop-t-test.false c.terms-terms.ensures.value c.loop-t.invariant
