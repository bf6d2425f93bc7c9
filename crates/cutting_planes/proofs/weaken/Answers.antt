use Rattle.std.proofs.Common.{◌≡◌, ◌≢◌, ◌<◌, ◌+◌, ◌-◌, ◌++◌, ◌∙◌, sym, ap, subst, arith, List, ℕ, get_or, length, take, drop}
use Rattle.std.specs.Prelude.{All, IfOk}
use Rattle.pb_rules.specs.declared.Term.{Term}
use Rattle.pb_rules.specs.Linear.{Linear, IsNormal}
use Rattle.pb_rules.specs.CuttingPlanes.{weaken, without_var, coef_of}
use Rattle.pb_rules.proofs.Normal.{weaken_normal}
use Rattle.pb_rules.proofs.Merges.{without_at, without_none, slice_all}
use Rattle.cutting_planes.proofs.weaken.Goals as goal

-- the terms before a place and after it, and the degree less the coefficient there
weakened : (x p d e r : ℕ) (t : Term) (all ts front now : List Term) → all ≡ ts → p < length all → ((k : ℕ) (d : Term) → k < p → (get_or all k d).lit.var ≢ x) → (get_or all p t).lit.var ≡ x
    → front ≡ take p all → now ≡ front ++ take (length all - (p + 1)) (drop (p + 1) all) → e ≡ d → r ≡ e - (get_or all p t).coef → (now ≡ without_var x ts) × (r ≡ d - coef_of x ts)
weakened x p d e r t all ts front now same l before at h k q s =
    let found = without_at x all p t l before at in
    let items : now ≡ take p all ++ drop (p + 1) all = k ∙ ap (λ (us : List Term). front ++ us) (slice_all all (p + 1)) ∙ ap (λ (us : List Term). us ++ drop (p + 1) all) h in
    let coef : coef_of x ts ≡ (get_or all p t).coef = ap (coef_of x) (sym same) ∙ found.1 in
    (items ∙ sym found.0 ∙ ap (without_var x) same, omega arith)

pub of_normal-requires : goal.of_normal-requires
of_normal-requires c =
    let a = c.args.a.now in
    let x = c.args.var in
    let t = c.index-all-place.result in
    let w = weakened x c.in-Some.place a.degree c.degree.result c.saturating_sub.result t c.terms-all.result.now a.terms c.in_ok-terms-in-Some.terms.items c.extend_from_slice.new.self.items
    c.terms-all.ensures.value c.in-Some.ensures.in_range c.in-Some.ensures.first (c.in-Some.ensures.found t) c.in_ok-terms-in-Some.ensures.items c.in_ok-extend_from_slice-in-Some.ensures.items
    c.degree.ensures.value c.saturating_sub.ensures in
    let P : List Term → Type 0 = λ ts. IsNormal ts c.saturating_sub.result in
    let Q : ℕ → Type 0 = λ k. IsNormal (without_var x a.terms) k in
    subst P (sym w.0) (subst Q (sym w.1) (weaken_normal x a c.terms-all.ensures.normal))

pub returns-in-None : goal.returns-in-None
returns-in-None c =
    let a : Linear = c.args.a.now in
    let x = c.args.var in
    let P : List Term → Type 0 = λ ts. All (λ (t : Term). t.lit.var ≢ x) ts in
    let n = without_none x a.terms (subst P c.terms-all.ensures.value c.in-None.ensures.none) in
    let R : List Term → ℕ → Linear = λ ts k. record { terms = ts; degree = k } in
    let z = n.1 in
    let degree : a.degree ≡ a.degree - coef_of x a.terms = omega arith in
    let same : a ≡ weaken x a = ap (R a.terms) degree ∙ ap (λ (ts : List Term). R ts (a.degree - coef_of x a.terms)) (sym n.0) in
    let Q : Linear → Type 0 = λ l. IfOk c.copy.result (λ k. k ≡ l) in
    subst Q same c.copy.ensures

pub returns-in_ok-extend_from_slice-in-Some : goal.returns-in_ok-extend_from_slice-in-Some
returns-in_ok-extend_from_slice-in-Some c =
    let a = c.args.a.now in
    let x = c.args.var in
    let t = c.index-all-place.result in
    let w = weakened x c.in-Some.place a.degree c.degree.result c.saturating_sub.result t c.terms-all.result.now a.terms c.in_ok-terms-in-Some.terms.items c.extend_from_slice.new.self.items
    c.terms-all.ensures.value c.in-Some.ensures.in_range c.in-Some.ensures.first (c.in-Some.ensures.found t) c.in_ok-terms-in-Some.ensures.items c.in_ok-extend_from_slice-in-Some.ensures.items
    c.degree.ensures.value c.saturating_sub.ensures in
    let R : List Term → ℕ → Linear = λ ts k. record { terms = ts; degree = k } in
    c.of_normal.ensures.value ∙ ap (λ (ts : List Term). R ts c.saturating_sub.result) w.0 ∙ ap (R (without_var x a.terms)) w.1
