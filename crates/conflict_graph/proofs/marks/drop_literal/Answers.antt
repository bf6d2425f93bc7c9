use Rattle.std.proofs.Common.{◌≡◌, ◌≢◌, ◌-◌, ◌∙◌, sym, ap, refl, Bool, not, get_or, set, None, length, subst, Option, ℕ}
use Rattle.conflict_graph.specs.Learning.{signs, currents}
use Rattle.conflict_graph.proofs.Writing.{dropped_current, dropped_lower}
use Rattle.conflict_graph.proofs.marks.drop_literal.Goals as goal

abbrev nothing : Option Bool
nothing = None

pub overflow_sub-result : goal.overflow_sub-result
overflow_sub-result c =
    let x = c.args.lit.var in
    let level : get_or c.args.levels.now x 0 ≡ c.level.result = ap (λ (y : ℕ). get_or c.args.levels.now y 0) (sym c.var-var.ensures.value) ∙ c.if-levels-var.true in
    (dropped_current c.args.trail.now.entries c.args.clause.now c.args.levels.now (length c.args.clause.now) x c.args.lit.yes (not c.args.lit.yes) c.args.count c.requires.levels refl
    c.requires.in_range c.requires.assigned c.requires.there c.requires.counted (level ∙ c.level.ensures)).0

pub returns-then-levels-var-clause-counted : goal.returns-then-levels-var-clause-counted
returns-then-levels-var-clause-counted c =
    let x = c.args.lit.var in
    let v : c.var-var.result ≡ x = c.var-var.ensures.value in
    let level : get_or c.args.levels.now x 0 ≡ c.level.result = ap (λ (y : ℕ). get_or c.args.levels.now y 0) (sym v) ∙ c.if-levels-var.true in
    let q = dropped_current c.args.trail.now.entries c.args.clause.now c.args.levels.now (length c.args.clause.now) x c.args.lit.yes (not c.args.lit.yes) c.args.count c.requires.levels refl
    c.requires.in_range c.requires.assigned c.requires.there c.requires.counted (level ∙ c.level.ensures) in
    let P : ℕ → Type 0 = λ y. c.args.count - 1 ≡ currents (length c.args.clause.now) 0 c.args.trail.now.entries (signs (set c.args.clause.now y nothing)) in
    subst P (sym v) q.1

pub returns-else-levels-var-clause-counted : goal.returns-else-levels-var-clause-counted
returns-else-levels-var-clause-counted c =
    let x = c.args.lit.var in
    let v : c.var-var.result ≡ x = c.var-var.ensures.value in
    let level : get_or c.args.levels.now x 0 ≢ c.level.result = λ e. c.if-levels-var.false (ap (λ (y : ℕ). get_or c.args.levels.now y 0) v ∙ e) in
    let q = dropped_lower c.args.trail.now.entries c.args.clause.now c.args.levels.now (length c.args.clause.now) x c.args.lit.yes (not c.args.lit.yes) c.args.count c.requires.levels refl
    c.requires.in_range c.requires.assigned c.requires.there c.requires.counted (λ e. level (e ∙ sym c.level.ensures)) in
    let P : ℕ → Type 0 = λ y. c.args.count ≡ currents (length c.args.clause.now) 0 c.args.trail.now.entries (signs (set c.args.clause.now y nothing)) in
    subst P (sym v) q
