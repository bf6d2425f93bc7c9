use Rattle.std.proofs.Common.{◌≡◌, ◌∙◌, sym, ap, subst, List, ℕ}
use Rattle.pb_rules.specs.declared.Term.{Term}
use Rattle.pb_rules.specs.Linear.{IsNormal}
use Rattle.pb_rules.specs.CuttingPlanes.{cut}
use Rattle.pb_rules.proofs.Normal.{saturate_normal}
use Rattle.cutting_planes.proofs.saturate.Goals as goal

pub of_normal-requires : goal.of_normal-requires
of_normal-requires c =
    let a = c.args.a.now in
    let n = saturate_normal a c.terms.ensures.normal in
    let items : c.in_ok-terms.terms.items ≡ cut a.degree a.terms = c.in_ok-terms.ensures ∙ ap (λ (k : ℕ). cut k c.terms.result.now) c.degree.ensures.value ∙ ap (cut a.degree) c.terms.ensures.value in
    let P : List Term → Type 0 = λ ts. IsNormal ts c.degree-2.result in
    let Q : ℕ → Type 0 = λ k. IsNormal (cut a.degree a.terms) k in
    subst P (sym items) (subst Q (sym c.degree-2.ensures.value) n)
