use Rattle.std.proofs.Common.{◌≡◌, ◌∙◌, not, Some, None, List, refl, sym, ap}
use Rattle.std.specs.Bool.{beq}
use Rattle.trail_state.specs.Trail.{Entry, value_in}
use Rattle.trail_state.proofs.Entries.{push_same}
use Rattle.propagate.proofs.Units.{unit_appends, unit_conflict, value_false}
use Rattle.propagate.proofs.visits.push_last.Goals as goal

pub returns-in-None-clause-appends : goal.returns-in-None-clause-appends
returns-in-None-clause-appends c =
    let es = c.args.trail.now.entries in
    let t = c.terms-terms.ensures in
    let free : value_in es c.args.last.var ≡ None = ap (value_in es) (sym c.var.ensures.value) ∙ sym c.value.ensures ∙ c.in-None.is in
    unit_appends c.args.id c.args.c.now.whole c.args.last es c.push.new.self.entries t.normal t.watched.clause c.requires.there c.requires.rest free c.push.ensures.entries

pub returns-in-None-clause-pushed : goal.returns-in-None-clause-pushed
returns-in-None-clause-pushed c = λ z.
    (let es = c.args.trail.now.entries in
    let l = c.args.last in
    let e : Entry = record { lit = l; reason = Some c.args.id } in
    let free : value_in es l.var ≡ None = ap (value_in es) (sym c.var.ensures.value) ∙ sym c.value.ensures ∙ c.in-None.is in
    ap (λ (fs : List Entry). value_in fs l.var) c.push.ensures.entries ∙ push_same es e l.var free refl)

pub returns-in-Some-clause-conflict : goal.returns-in-Some-clause-conflict
returns-in-Some-clause-conflict c = λ n.
    (let es = c.args.trail.now.entries in
    let l = c.args.last in
    let t = c.terms-terms.ensures in
    let has : value_in es l.var ≡ Some c.in-Some.value = ap (value_in es) (sym c.var.ensures.value) ∙ sym c.value.ensures ∙ c.in-Some.is in
    let n' = ap (λ b. not (beq c.in-Some.value b)) (sym c.is_yes.ensures) ∙ n in
    unit_conflict (value_in es) c.args.c.now.whole l t.normal t.watched.clause c.requires.there c.requires.rest (value_false (value_in es l.var) c.in-Some.value l.yes has n'))
