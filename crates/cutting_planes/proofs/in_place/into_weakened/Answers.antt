use Rattle.std.proofs.Common.{◌≡◌, ◌≢◌, ◌<◌, ◌+◌, ◌-◌, ◌++◌, ◌∙◌, sym, ap, subst, arith, List, ℕ, get_or, length, take, drop}
use Rattle.std.specs.Prelude.{All}
use Rattle.pb_rules.specs.declared.Term.{Term}
use Rattle.pb_rules.specs.Linear.{Linear, IsNormal}
use Rattle.pb_rules.specs.CuttingPlanes.{without_var, coef_of}
use Rattle.pb_rules.proofs.Normal.{weaken_normal}
use Rattle.pb_rules.proofs.Merges.{without_at, without_none}
use Rattle.cutting_planes.proofs.in_place.into_weakened.Goals as goal

-- the terms once that at a place is removed, and the degree less its coefficient
weakened : (x p d e r : ℕ) (gone : Term) (all ts old now : List Term) → all ≡ ts → old ≡ ts → p < length all → ((k : ℕ) (d : Term) → k < p → (get_or all k d).lit.var ≢ x)
    → (get_or all p gone).lit.var ≡ x → now ≡ take p old ++ drop (p + 1) old → gone ≡ get_or old p gone → e ≡ d → r ≡ e - gone.coef → (now ≡ without_var x ts) × (r ≡ d - coef_of x ts)
weakened x p d e r gone all ts old now same moved l before at k g q s =
    let found = without_at x all p gone l before at in
    let back : old ≡ all = moved ∙ sym same in
    let items = k ∙ ap (λ (us : List Term). take p us ++ drop (p + 1) us) back ∙ sym found.0 ∙ ap (without_var x) same in
    let coef : coef_of x ts ≡ gone.coef = ap (coef_of x) (sym same) ∙ found.1 ∙ ap (λ (us : List Term). (get_or us p gone).coef) (sym back) ∙ ap (λ (t : Term). t.coef) (sym g) in
    (items, omega arith)

pub of_normal-requires : goal.of_normal-requires
of_normal-requires c =
    let a = c.args.a in
    let x = c.args.var in
    let gone = c.remove-gone.result in
    let w = weakened x c.in-Some.place a.degree c.degree-degree.result c.saturating_sub.result gone c.terms.result.now a.terms c.into_terms-terms.result.items c.remove-gone.new.self.items
    c.terms.ensures.value c.into_terms-terms.ensures.value c.in-Some.ensures.in_range c.in-Some.ensures.first (c.in-Some.ensures.found gone) c.remove-gone.ensures.by_index.2
    c.remove-gone.ensures.value c.degree-degree.ensures.value c.saturating_sub.ensures in
    let P : List Term → Type 0 = λ ts. IsNormal ts c.saturating_sub.result in
    let Q : ℕ → Type 0 = λ k. IsNormal (without_var x a.terms) k in
    subst P (sym w.0) (subst Q (sym w.1) (weaken_normal x a c.terms.ensures.normal))

pub returns-in-None : goal.returns-in-None
returns-in-None c =
    let a : Linear = c.args.a in
    let x = c.args.var in
    let P : List Term → Type 0 = λ ts. All (λ (t : Term). t.lit.var ≢ x) ts in
    let n = without_none x a.terms (subst P c.terms.ensures.value c.in-None.ensures.none) in
    let R : List Term → ℕ → Linear = λ ts k. record { terms = ts; degree = k } in
    let z = n.1 in
    let degree : a.degree ≡ a.degree - coef_of x a.terms = omega arith in
    ap (R a.terms) degree ∙ ap (λ (ts : List Term). R ts (a.degree - coef_of x a.terms)) (sym n.0)

pub returns-in-Some : goal.returns-in-Some
returns-in-Some c =
    let a = c.args.a in
    let x = c.args.var in
    let gone = c.remove-gone.result in
    let w = weakened x c.in-Some.place a.degree c.degree-degree.result c.saturating_sub.result gone c.terms.result.now a.terms c.into_terms-terms.result.items c.remove-gone.new.self.items
    c.terms.ensures.value c.into_terms-terms.ensures.value c.in-Some.ensures.in_range c.in-Some.ensures.first (c.in-Some.ensures.found gone) c.remove-gone.ensures.by_index.2
    c.remove-gone.ensures.value c.degree-degree.ensures.value c.saturating_sub.ensures in
    let R : List Term → ℕ → Linear = λ ts k. record { terms = ts; degree = k } in
    c.of_normal.ensures.value ∙ ap (λ (ts : List Term). R ts c.saturating_sub.result) w.0 ∙ ap (R (without_var x a.terms)) w.1
