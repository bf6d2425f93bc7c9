use Rattle.std.proofs.Common.{arith, ap, ◌∙◌, sym, set, min, ℕ, List, get_or}
use Rattle.std.proofs.lemmas.List.Edits.{map_over_more}
use Rattle.pb_rules.specs.declared.Term.{Term}
use Rattle.cutting_planes.specs.Lowered.{lowered}
use Rattle.cutting_planes.proofs.in_place.lower_terms.Goals as goal

pub loop-t-preserved : goal.loop-t-preserved
loop-t-preserved c =
    let d = c.args.degree in
    let now = c.loop-t.terms in
    let i = c.loop-t.t-index in
    let t = c.t-item.result in
    let q : ℕ → Term → List Term = λ m v. let r : Term = record { coef = m; lit = v.lit } in set now i r in
    ap (λ (m : ℕ). q m (get_or now i t)) c.min-t.ensures
    ∙ ap (λ (v : Term). q (min v.coef d) v) (sym c.t-item.is)
    ∙ map_over_more (lowered d) c.args.terms.now now i t (omega arith) c.loop-t.invariant c.t-item.is
