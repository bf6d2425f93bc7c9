use Rattle.std.proofs.Common.{◌≡◌, ◌∙◌, sym, ap, subst, List, ℕ}
use Rattle.pb_rules.specs.declared.Term.{Term}
use Rattle.pb_rules.specs.Linear.{IsNormal}
use Rattle.pb_rules.specs.CuttingPlanes.{cut}
use Rattle.pb_rules.proofs.Normal.{saturate_normal}
use Rattle.cutting_planes.proofs.in_place.into_saturated.Goals as goal

pub of_normal-requires : goal.of_normal-requires
of_normal-requires c =
    let a = c.args.a in
    let n = saturate_normal a c.into_terms-terms.ensures.normal in
    let items : c.cut_terms.new.terms.items ≡ cut a.degree a.terms = c.cut_terms.ensures ∙ ap (λ (k : ℕ). cut k c.into_terms-terms.result.items) c.degree-degree.ensures.value
    ∙ ap (cut a.degree) c.into_terms-terms.ensures.value in
    let P : List Term → Type 0 = λ ts. IsNormal ts c.degree-degree.result in
    let Q : ℕ → Type 0 = λ k. IsNormal (cut a.degree a.terms) k in
    subst P (sym items) (subst Q (sym c.degree-degree.ensures.value) n)
