use Rattle.std.proofs.Common.{◌≡◌, ◌++◌, ◌∷◌, [], ◌∙◌, sym, ap, take, List}
use Rattle.std.proofs.lemmas.List.{append-nil}
use Rattle.pb_rules.specs.declared.Term.{Term}
use Rattle.pb_rules.specs.CuttingPlanes.{cut}
use Rattle.pb_rules.proofs.Merges.{cut_more, cut_hit, cut_miss}
use Rattle.cutting_planes.proofs.terms.cut_down.Goals as goal
use Rattle.cutting_planes.proofs.terms.cut_down.Goals.{then-coef-gt0+in_ok-push, else-coef-gt0}

pub loop-t-preserved : goal.loop-t-preserved
loop-t-preserved c =
    let d = c.args.degree in
    let t = c.t-item.result in
    let i = c.loop-t.t-index in
    let done = cut d (take i c.args.terms.now) in
    let more = cut_more d c.args.terms.now i t c.loop-t-test.true c.t-item.is in
    let inv : c.loop-t.out.items ≡ done = c.loop-t.invariant in
    elim c.if-coef-gt0.branch [
      | then-coef-gt0+in_ok-push w ↦ (rw w.out-is (w.in_ok-push.ensures.items ∙ ap (λ (os : List Term). let r : Term = record { coef = c.min-coef.result; lit = t.lit } in os ++ r ∷ []) inv
          ∙ ap (λ (us : List Term). done ++ us) (sym (cut_hit d t c.min-coef.result c.min-coef.ensures w.if-coef-gt0.true)) ∙ sym more))
      | else-coef-gt0 w ↦ (rw w.out-is (inv ∙ sym (append-nil done) ∙ ap (λ (us : List Term). done ++ us) (sym (cut_miss d t c.min-coef.result c.min-coef.ensures w.if-coef-gt0.false)) ∙ sym more))
    ]
