use Rattle.std.proofs.Common.{rules, ◌≢◌, Option, Some, IfSome, refl, sym, subst}
use Rattle.pb_rules.specs.Literal.{Literal}
use Rattle.propagate.specs.Watched.{HasLiteral}
use Rattle.propagate.proofs.watched.latest.Goals as goal
use Rattle.propagate.proofs.watched.latest.Goals.{then-ne+then-late-last, else-ne}

pub loop-t-init : goal.loop-t-init
loop-t-init c = search rules

pub loop-t-preserved : goal.loop-t-preserved
loop-t-preserved c =
    let P : Option Literal → Type 0 = λ o. IfSome o (λ b. HasLiteral c.args.terms.now b) in
    let Q : Option Literal → Type 0 = λ o. IfSome o (λ b. c.args.but ≢ Some b) in
    elim c.if-ne.branch [
      | then-ne+then-late-last w ↦ (
          let t = c.t-item.result in
          let own : HasLiteral c.args.terms.now t.lit = record { term = t; there = (c.loop-t.t-index, c.loop-t-test.true, sym c.t-item.is); is = refl } in
          let apart : c.args.but ≢ Some t.lit = (let e = w.if-ne.true in let f = c.ne.ensures in search rules) in
          record { there = subst P (sym w.best-is) own; other = subst Q (sym w.best-is) apart })
      | else-ne w ↦ record { there = subst P (sym w.best-is) c.loop-t.invariant.there; other = subst Q (sym w.best-is) c.loop-t.invariant.other }
    ]

pub returns-clause-there : goal.returns-clause-there
returns-clause-there c = c.loop-t.invariant.there

pub returns-clause-other : goal.returns-clause-other
returns-clause-other c = c.loop-t.invariant.other
