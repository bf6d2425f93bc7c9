use Rattle.std.proofs.Common.{arith, ap, ◌∙◌, sym, set, ℕ, List, get_or}
use Rattle.std.proofs.lemmas.List.Edits.{map_over_more}
use Rattle.pb_rules.specs.declared.Term.{Term}
use Rattle.pb_rules.specs.CuttingPlanes.{divided, up}
use Rattle.cutting_planes.proofs.in_place.divide_terms.Goals as goal

pub loop-t-preserved : goal.loop-t-preserved
loop-t-preserved c =
    let d = c.args.divisor in
    let now = c.loop-t.terms in
    let i = c.loop-t.t-index in
    let t = c.t-item.result in
    let q : ℕ → Term → List Term = λ m v. let r : Term = record { coef = m; lit = v.lit } in set now i r in
    ap (λ (m : ℕ). q m (get_or now i t)) c.div_ceil-t.ensures
    ∙ ap (λ (v : Term). q (up d v.coef) v) (sym c.t-item.is)
    ∙ map_over_more (divided d) c.args.terms.now now i t (omega arith) c.loop-t.invariant c.t-item.is
