use Rattle.std.proofs.Common.{rules, ◌≡◌, ◌≢◌, ◌∙◌, true, sym, ap, subst}
use Rattle.std.proofs.lemmas.List.Elements.{All-nil, All-more}
use Rattle.pb_rules.specs.declared.Term.{Term}
use Rattle.pb_rules.specs.Partial.{is_false}
use Rattle.trail_state.specs.Trail.{value_in}
use Rattle.propagate.specs.Watched.{WatchedView}
use Rattle.propagate.proofs.Watching.{all_done}
use Rattle.propagate.proofs.watched.Watched.open_but.Goals as goal
use Rattle.propagate.proofs.watched.Watched.open_but.Goals.{else-ne-via-then-ne+else-not-is_false, else-ne-via-else-ne}

pub loop-t-init : goal.loop-t-init
loop-t-init c =
    let P : Term → Type 0 = λ t. t.lit ≢ c.args.other → is_false (value_in c.args.trail.now.entries) t.lit ≡ true in
    All-nil P

pub loop-t-preserved : goal.loop-t-preserved
loop-t-preserved c =
    let P : Term → Type 0 = λ t. t.lit ≢ c.args.other → is_false (value_in c.args.trail.now.entries) t.lit ≡ true in
    let own : P c.t-item.result = elim c.else-ne.branch [
      | else-ne-via-then-ne+else-not-is_false w ↦ (λ n. sym w.is_false.ensures ∙ w.if-not-is_false.false)
      | else-ne-via-else-ne w ↦ (λ n. absurd (let e = w.if-ne.false in let f = c.ne.ensures in search rules))
    ] in
    All-more P c.terms-t-items.result.now c.loop-t.t-index c.t-item.result c.loop-t-test.true c.loop-t.invariant (subst P c.t-item.is own)

pub returns-clause-none : goal.returns-clause-none
returns-clause-none c =
    let P : Term → Type 0 = λ t. t.lit ≢ c.args.other → is_false (value_in c.args.trail.now.entries) t.lit ≡ true in
    all_done P c.terms-t-items.result.now c.args.self.now.whole.terms c.loop-t.t-index c.loop-t-test.false
    (c.terms-t-items.ensures.value ∙ ap (λ (w : WatchedView). w.whole.terms) c.self.view_is) c.loop-t.invariant
