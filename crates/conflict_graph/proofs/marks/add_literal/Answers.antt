use Rattle.std.proofs.Common.{◌≡◌, ◌≢◌, ◌+◌, ◌∙◌, sym, ap, refl, arith, not, get_or, set, None, Some, length, subst, ℕ}
use Rattle.conflict_graph.specs.Learning.{signs, currents}
use Rattle.conflict_graph.proofs.Counts.{currents-le}
use Rattle.conflict_graph.proofs.Writing.{added_current, added_lower, none_of}
use Rattle.conflict_graph.proofs.marks.add_literal.Goals as goal

pub overflow_add-result : goal.overflow_add-result
overflow_add-result c =
    let few = c.requires.few in
    let counted = c.requires.counted in
    let le = currents-le (length c.args.clause.now) 0 c.args.trail.now.entries (signs c.args.clause.now) in
    omega arith

pub returns-then-levels-var-clause-counted : goal.returns-then-levels-var-clause-counted
returns-then-levels-var-clause-counted c =
    let x = c.args.lit.var in
    let v : c.var-var.result ≡ x = c.var-var.ensures.value in
    let free : signs c.args.clause.now x ≡ None = ap (signs c.args.clause.now) (sym v) ∙ none_of (signs c.args.clause.now c.var-var.result) (sym c.if-is_some.ensures) in
    let level : get_or c.args.levels.now x 0 ≡ c.level.result = ap (λ (y : ℕ). get_or c.args.levels.now y 0) (sym v) ∙ c.if-levels-var.true in
    let q = added_current c.args.trail.now.entries c.args.clause.now c.args.levels.now (length c.args.clause.now) x (not c.args.lit.yes) c.is_yes.result c.args.count c.requires.levels refl
    c.requires.in_range c.requires.assigned free c.requires.counted (level ∙ c.level.ensures) in
    let P : ℕ → Type 0 = λ y. c.args.count + 1 ≡ currents (length c.args.clause.now) 0 c.args.trail.now.entries (signs (set c.args.clause.now y (Some c.is_yes.result))) in
    subst P (sym v) q

pub returns-else-levels-var-clause-counted : goal.returns-else-levels-var-clause-counted
returns-else-levels-var-clause-counted c =
    let x = c.args.lit.var in
    let v : c.var-var.result ≡ x = c.var-var.ensures.value in
    let free : signs c.args.clause.now x ≡ None = ap (signs c.args.clause.now) (sym v) ∙ none_of (signs c.args.clause.now c.var-var.result) (sym c.if-is_some.ensures) in
    let level : get_or c.args.levels.now x 0 ≢ c.level.result = λ e. c.if-levels-var.false (ap (λ (y : ℕ). get_or c.args.levels.now y 0) v ∙ e) in
    let q = added_lower c.args.trail.now.entries c.args.clause.now c.args.levels.now (length c.args.clause.now) x (not c.args.lit.yes) c.is_yes.result c.args.count c.requires.levels refl
    c.requires.in_range c.requires.assigned free c.requires.counted (λ e. level (e ∙ sym c.level.ensures)) in
    let P : ℕ → Type 0 = λ y. c.args.count ≡ currents (length c.args.clause.now) 0 c.args.trail.now.entries (signs (set c.args.clause.now y (Some c.is_yes.result))) in
    subst P (sym v) q
