use Rattle.std.proofs.Common.{◌≡◌, ◌∙◌, sym, ap, subst, List, ℕ, map, length}
use Rattle.pb_rules.specs.declared.Term.{Term}
use Rattle.pb_rules.specs.Linear.{IsNormal}
use Rattle.pb_rules.specs.CuttingPlanes.{divided, up}
use Rattle.pb_rules.proofs.Normal.{divide_normal}
use Rattle.cutting_planes.proofs.Lowered.{written_map}
use Rattle.cutting_planes.proofs.in_place.into_quotient.Goals as goal

pub of_normal-requires : goal.of_normal-requires
of_normal-requires c =
    let a = c.args.a in
    let d = c.args.divisor in
    let n = divide_normal d a c.requires c.into_terms-terms.ensures.normal in
    let value = c.deref_mut.ensures.value in
    let len = sym (ap length value) ∙ c.deref_mut.ensures.len in
    let all = c.into_terms-terms.result in
    let items = written_map (divided d) all.len c.divide_terms.new.terms all.items (c.divide_terms.ensures ∙ ap (map (divided d)) value) len ∙ ap (map (divided d)) c.into_terms-terms.ensures.value in
    let degree : c.div_ceil.result ≡ up d a.degree = c.div_ceil.ensures ∙ ap (up d) c.degree-degree.ensures.value in
    let P : List Term → Type 0 = λ ts. IsNormal ts c.div_ceil.result in
    let Q : ℕ → Type 0 = λ k. IsNormal (map (divided d) a.terms) k in
    subst P (sym items) (subst Q (sym degree) n)
