use Rattle.std.proofs.Common.{◌≡◌, ◌∙◌, sym, ap, subst, List, ℕ}
use Rattle.pb_rules.specs.declared.Term.{Term}
use Rattle.pb_rules.specs.Linear.{Linear, IsNormal}
use Rattle.cutting_planes.specs.Weakened.{linear, weaken_each}
use Rattle.cutting_planes.proofs.Weakened.{each_normal}
use Rattle.cutting_planes.proofs.weakenings.weaken_each.Goals as goal

pub of_normal-requires : goal.of_normal-requires
of_normal-requires c =
    let a : Linear = c.args.a.now in
    let xs = c.args.vars.now in
    let left = c.in_ok-left.left in
    let whole : linear left.terms.items left.degree ≡ weaken_each xs a =
    c.in_ok-left.ensures ∙ (ap (λ (ts : List Term). weaken_each xs (linear ts c.degree.result)) c.terms.ensures.value ∙ ap (λ (k : ℕ). weaken_each xs (linear a.terms k)) c.degree.ensures.value) in
    subst (λ (b : Linear). IsNormal b.terms b.degree) (sym whole) (each_normal xs a c.terms.ensures.normal)
