use Rattle.std.proofs.Common.{◌≡◌, ◌∙◌, sym, ap, subst, List, ℕ, map}
use Rattle.pb_rules.specs.declared.Term.{Term}
use Rattle.pb_rules.specs.Linear.{IsNormal}
use Rattle.pb_rules.specs.CuttingPlanes.{divided, up}
use Rattle.pb_rules.proofs.Normal.{divide_normal}
use Rattle.cutting_planes.proofs.divide.Goals as goal

pub of_normal-requires : goal.of_normal-requires
of_normal-requires c =
    let a = c.args.a.now in
    let d = c.args.divisor in
    let n = divide_normal d a c.requires c.terms.ensures.normal in
    let items : c.in_ok-terms.terms.items ≡ map (divided d) a.terms = c.in_ok-terms.ensures ∙ ap (map (divided d)) c.terms.ensures.value in
    let degree : c.div_ceil.result ≡ up d a.degree = c.div_ceil.ensures ∙ ap (up d) c.degree.ensures.value in
    let P : List Term → Type 0 = λ ts. IsNormal ts c.div_ceil.result in
    let Q : ℕ → Type 0 = λ k. IsNormal (map (divided d) a.terms) k in
    subst P (sym items) (subst Q (sym degree) n)
