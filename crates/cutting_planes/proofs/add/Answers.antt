use Rattle.std.proofs.Common.{◌≡◌, ◌+◌, ◌-◌, ◌∙◌, sym, ap, subst, arith, List, ℕ, None}
use Rattle.pb_rules.specs.declared.Term.{Term}
use Rattle.pb_rules.specs.Linear.{Linear, IsNormal, total}
use Rattle.pb_rules.specs.CuttingPlanes.{merge, add}
use Rattle.pb_rules.specs.Operations.{excess}
use Rattle.pb_rules.proofs.Normal.{merge-total, add_normal}
use Rattle.cutting_planes.proofs.add.Goals as goal

pub accept-requires-clause-sum : goal.accept-requires-clause-sum
accept-requires-clause-sum c =
    let a = c.args.a.now in
    let b = c.args.b.now in
    let items : c.in_ok-merged.merged.terms.items ≡ (merge a.terms b.terms).terms = c.in_ok-merged.ensures.terms
    ∙ ap (λ (x : List Term). (merge x c.terms-2.result.now).terms) c.terms.ensures.value ∙ ap (λ (y : List Term). (merge a.terms y).terms) c.terms-2.ensures.value in
    let t = ap total items in
    let m = merge-total a.terms b.terms in
    let x = c.terms.ensures.normal.small in
    let y = c.terms-2.ensures.normal.small in
    omega arith

pub accept-requires-clause-normal : goal.accept-requires-clause-normal
accept-requires-clause-normal c =
    let a = c.args.a.now in
    let b = c.args.b.now in
    let A = c.terms.result.now in
    let B = c.terms-2.result.now in
    let items : c.in_ok-merged.merged.terms.items ≡ (merge a.terms b.terms).terms = c.in_ok-merged.ensures.terms ∙ ap (λ (x : List Term). (merge x B).terms) c.terms.ensures.value
    ∙ ap (λ (y : List Term). (merge a.terms y).terms) c.terms-2.ensures.value in
    let cancelled : c.in_ok-merged.merged.cancelled ≡ (merge a.terms b.terms).cancelled = c.in_ok-merged.ensures.cancelled ∙ ap (λ (x : List Term). (merge x B).cancelled) c.terms.ensures.value
    ∙ ap (λ (y : List Term). (merge a.terms y).cancelled) c.terms-2.ensures.value in
    let deg = c.saturating_sub-degree.ensures in
    let p = c.degree.ensures.value in
    let q = c.degree-2.ensures.value in
    let degree : c.saturating_sub-degree.result ≡ a.degree + b.degree - (merge a.terms b.terms).cancelled = omega arith in
    let R : List Term → ℕ → Linear = λ ts k. record { terms = ts; degree = k } in
    let same : R c.in_ok-merged.merged.terms.items c.saturating_sub-degree.result ≡ add a b = ap (λ (ts : List Term). R ts c.saturating_sub-degree.result) items
    ∙ ap (R (merge a.terms b.terms).terms) degree in
    let P : Linear → Type 0 = λ l. excess l ≡ None → IsNormal l.terms l.degree in
    subst P (sym same) (add_normal a b c.terms.ensures.normal c.terms-2.ensures.normal)
