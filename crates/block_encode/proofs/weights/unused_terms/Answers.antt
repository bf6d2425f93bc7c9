use Rattle.std.proofs.Common.{◌≡◌, ℕ, Vec, Global, ap, ◌∙◌}
use Rattle.pb_rules.specs.declared.Term.{Term}
use Rattle.pb_rules.specs.Literal.{Literal}
use Rattle.block_encode.proofs.Adding.{unused_more_some, unused_more_none}
use Rattle.block_encode.proofs.weights.unused_terms.Goals.{then-weight-gt0+in_ok-push, else-weight-gt0}
use Rattle.block_encode.proofs.weights.unused_terms.Goals as goal

pub loop-x-preserved : goal.loop-x-preserved
loop-x-preserved c =
    let s = c.args.spec.now in
    elim c.if-weight-gt0.branch [
      | then-weight-gt0+in_ok-push w ↦ unused_more_some s c.args.j c.loop-x.x c.weight-weight.result (record { coef = c.weight-weight.result; lit = w.no.result }) c.loop-x.terms.items
          c.if-weight-gt0.terms.items c.loop-x.invariant c.weight-weight.ensures.weight w.if-weight-gt0.true (ap (λ (l : Literal). make c.weight-weight.result l) w.no.ensures)
          (items w.terms-is ∙ w.in_ok-push.ensures.items)
      | else-weight-gt0 w ↦ unused_more_none s c.args.j c.loop-x.x c.weight-weight.result c.loop-x.terms.items c.if-weight-gt0.terms.items c.loop-x.invariant c.weight-weight.ensures.weight
          w.if-weight-gt0.false (items w.terms-is)
    ]
  where
    make : ℕ → Literal → Term
    make k l = record { coef = k; lit = l }

    items : {x y : Vec Term Global} → x ≡ y → x.items ≡ y.items
    items e = ap (λ (z : Vec Term Global). z.items) e
