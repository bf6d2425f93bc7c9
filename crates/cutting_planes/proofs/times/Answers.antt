use Rattle.std.proofs.Common.{◌≡◌, ◌*◌, ◌∙◌, sym, ap, subst, arith, List, ℕ, map}
use Rattle.std.specs.Prelude.{Option, Result, Err}
use Rattle.pb_rules.specs.declared.Term.{Term}
use Rattle.pb_rules.specs.Linear.{Linear, IsNormal, total}
use Rattle.pb_rules.specs.CuttingPlanes.{times, multiplied}
use Rattle.pb_rules.specs.Operations.{Fault, too_large, unless_too_large}
use Rattle.pb_rules.proofs.Normal.{times_total, times_normal, excess_sum, excess-degree, excess-none}
use Rattle.cutting_planes.proofs.times.Goals as goal

abbrev failed : ℕ → Result Linear Fault
failed m = Err (too_large m)

pub returns-then-sum-ge-LIMIT-clause-refused : goal.returns-then-sum-ge-LIMIT-clause-refused
returns-then-sum-ge-LIMIT-clause-refused c =
    let a = c.args.a.now in
    let n = c.args.factor in
    let e : c.from.result * c.from-2.result ≡ total (times n a).terms = ap (λ (x : ℕ). x * c.from-2.result) c.from.ensures
    ∙ ap (λ (y : ℕ). n * y) (c.from-2.ensures ∙ c.coefficient_sum.ensures ∙ ap total c.terms.ensures.value) ∙ sym (times_total n a.terms) in
    let big = c.if-sum-ge-LIMIT.true in
    ap (λ (o : Option ℕ). unless_too_large o (times n a)) (excess_sum (times n a) (omega arith)) ∙ ap failed (sym e)

pub returns-then-degree-ge-LIMIT-clause-refused : goal.returns-then-degree-ge-LIMIT-clause-refused
returns-then-degree-ge-LIMIT-clause-refused c =
    let a = c.args.a.now in
    let n = c.args.factor in
    let e : c.from.result * c.from-2.result ≡ total (times n a).terms = ap (λ (x : ℕ). x * c.from-2.result) c.from.ensures
    ∙ ap (λ (y : ℕ). n * y) (c.from-2.ensures ∙ c.coefficient_sum.ensures ∙ ap total c.terms.ensures.value) ∙ sym (times_total n a.terms) in
    let f : c.from-3.result * c.from-4.result ≡ (times n a).degree = ap (λ (x : ℕ). x * c.from-4.result) c.from-3.ensures ∙ ap (λ (y : ℕ). n * y) (c.from-4.ensures ∙ c.degree.ensures.value) in
    let small = c.if-sum-ge-LIMIT.false in
    let big = c.if-degree-ge-LIMIT.true in
    ap (λ (o : Option ℕ). unless_too_large o (times n a)) (excess-degree (times n a) (omega arith) (omega arith)) ∙ ap failed (sym f)

pub of_normal-requires : goal.of_normal-requires
of_normal-requires c =
    let a = c.args.a.now in
    let n = c.args.factor in
    let e : c.from.result * c.from-2.result ≡ total (times n a).terms = ap (λ (x : ℕ). x * c.from-2.result) c.from.ensures
    ∙ ap (λ (y : ℕ). n * y) (c.from-2.ensures ∙ c.coefficient_sum.ensures ∙ ap total c.terms.ensures.value) ∙ sym (times_total n a.terms) in
    let f : c.from-3.result * c.from-4.result ≡ (times n a).degree = ap (λ (x : ℕ). x * c.from-4.result) c.from-3.ensures ∙ ap (λ (y : ℕ). n * y) (c.from-4.ensures ∙ c.degree.ensures.value) in
    let small = c.if-sum-ge-LIMIT.false in
    let small_degree = c.if-degree-ge-LIMIT.false in
    let normal = times_normal n a c.requires c.terms.ensures.normal (excess-none (times n a) (omega arith) (omega arith)) in
    let items : c.in_ok-terms.terms.items ≡ map (multiplied n) a.terms = c.in_ok-terms.ensures ∙ ap (map (multiplied n)) c.terms-2.ensures.value in
    let P : List Term → Type 0 = λ ts. IsNormal ts (c.from-3.result * c.from-4.result) in
    let Q : ℕ → Type 0 = λ k. IsNormal (map (multiplied n) a.terms) k in
    subst P (sym items) (subst Q (sym f) normal)
