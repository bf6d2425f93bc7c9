use Rattle.std.proofs.Common.{◌++◌, ◌∷◌, [], ◌∙◌, sym, ap, ℕ, take, List, map}
use Rattle.pb_rules.specs.declared.Term.{Term}
use Rattle.pb_rules.specs.CuttingPlanes.{divided}
use Rattle.pb_rules.proofs.Merges.{map_more}
use Rattle.cutting_planes.proofs.terms.divided_by.Goals as goal

pub loop-t-preserved : goal.loop-t-preserved
loop-t-preserved c =
    let d = c.args.divisor in
    let t = c.t-item.result in
    let i = c.loop-t.t-index in
    let more = map_more (divided d) c.args.terms.now i t c.loop-t-test.true c.t-item.is in
    let q : List Term → ℕ → List Term = λ os m. let r : Term = record { coef = m; lit = t.lit } in os ++ r ∷ [] in
    c.in_ok-push.ensures.items ∙ ap (λ (os : List Term). q os c.div_ceil.result) c.loop-t.invariant ∙ ap (λ (m : ℕ). q (map (divided d) (take i c.args.terms.now)) m) c.div_ceil.ensures ∙ sym more
