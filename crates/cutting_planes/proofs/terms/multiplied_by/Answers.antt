use Rattle.std.proofs.Common.{◌*◌, ◌++◌, ◌∷◌, [], ◌∙◌, sym, ap, List, arith}
use Rattle.std.proofs.lemmas.Nat.{mul-le}
use Rattle.pb_rules.specs.declared.Term.{Term}
use Rattle.pb_rules.specs.Linear.{total}
use Rattle.pb_rules.specs.CuttingPlanes.{multiplied}
use Rattle.pb_rules.proofs.Merges.{map_more, coef-le}
use Rattle.cutting_planes.proofs.terms.multiplied_by.Goals as goal

pub overflow_mul-factor : goal.overflow_mul-factor
overflow_mul-factor c =
    let a = coef-le c.args.terms.now c.loop-t.t-index c.t-item.result c.loop-t-test.true c.t-item.is in
    let b = mul-le c.args.factor c.t-item.result.coef c.args.factor (total c.args.terms.now) (omega arith) a in
    let r = c.requires in
    omega arith

pub loop-t-preserved : goal.loop-t-preserved
loop-t-preserved c =
    let d = c.args.factor in
    let t = c.t-item.result in
    let i = c.loop-t.t-index in
    let more = map_more (multiplied d) c.args.terms.now i t c.loop-t-test.true c.t-item.is in
    let q : List Term → List Term = λ os. let r : Term = record { coef = d * t.coef; lit = t.lit } in os ++ r ∷ [] in
    c.in_ok-push.ensures.items ∙ ap q c.loop-t.invariant ∙ sym more
