use Rattle.std.proofs.Common.{◌≡◌, ◌≢◌, ◌<◌, ◌≤◌, ◌∙◌, ◌⊎◌, sym, ap, arith, ℕ, List, length, get_or, subst, true, not}
use Rattle.pb_rules.specs.declared.Term.{Term}
use Rattle.pb_rules.specs.Partial.{is_false}
use Rattle.trail_state.specs.Trail.{value_in, level_in, level_of}
use Rattle.conflict_graph.proofs.Ends.{below_more, false_at}
use Rattle.conflict_graph.proofs.clauses.level_below.Goals as goal

pub bounds-levels-var : goal.bounds-levels-var
bounds-levels-var c =
    let at = c.t-item.is in
    let F : List Term → Type 0 = λ ts. (k : ℕ) (d : Term) → k < length ts → is_false (value_in c.args.trail.now.entries) (get_or ts k d).lit ≡ true in
    let all = subst F (sym c.terms-t-items.ensures.value) c.requires.false_all in
    let G : Term → Type 0 = λ t. is_false (value_in c.args.trail.now.entries) t.lit ≡ true in
    let here : is_false (value_in c.args.trail.now.entries) c.t-item.result.lit ≡ true = subst G (sym at) (all c.loop-t.t-index c.t-item.result c.loop-t-test.true) in
    let r = false_at c.args.trail.now.entries c.args.trail.now.variables c.t-item.result.lit c.assigned-assigned.ensures.in_range here in
    let a = r.0 in
    let l = c.requires.levels.len in
    let v = c.var.ensures.value in
    omega arith

pub offset_bounds-levels-var : goal.offset_bounds-levels-var
offset_bounds-levels-var c =
    let at = c.t-item.is in
    let F : List Term → Type 0 = λ ts. (k : ℕ) (d : Term) → k < length ts → is_false (value_in c.args.trail.now.entries) (get_or ts k d).lit ≡ true in
    let all = subst F (sym c.terms-t-items.ensures.value) c.requires.false_all in
    let G : Term → Type 0 = λ t. is_false (value_in c.args.trail.now.entries) t.lit ≡ true in
    let here : is_false (value_in c.args.trail.now.entries) c.t-item.result.lit ≡ true = subst G (sym at) (all c.loop-t.t-index c.t-item.result c.loop-t-test.true) in
    let r = false_at c.args.trail.now.entries c.args.trail.now.variables c.t-item.result.lit c.assigned-assigned.ensures.in_range here in
    let a = r.0 in
    let l = c.requires.levels.len in
    let v = c.var.ensures.value in
    let lt : c.var.result < length c.args.levels.now = omega arith in
    omega arith

pub loop-t-preserved : goal.loop-t-preserved
loop-t-preserved c =
    let at = c.t-item.is in
    let F : List Term → Type 0 = λ ts. (k : ℕ) (d : Term) → k < length ts → is_false (value_in c.args.trail.now.entries) (get_or ts k d).lit ≡ true in
    let all = subst F (sym c.terms-t-items.ensures.value) c.requires.false_all in
    let G : Term → Type 0 = λ t. is_false (value_in c.args.trail.now.entries) t.lit ≡ true in
    let here : is_false (value_in c.args.trail.now.entries) c.t-item.result.lit ≡ true = subst G (sym at) (all c.loop-t.t-index c.t-item.result c.loop-t-test.true) in
    let r = false_at c.args.trail.now.entries c.args.trail.now.variables c.t-item.result.lit c.assigned-assigned.ensures.in_range here in
    let lv : get_or c.args.levels.now c.var.result 0 ≡ level_in c.args.trail.now.entries c.t-item.result.lit.var = ap (λ (x : ℕ). get_or c.args.levels.now x 0) c.var.ensures.value
    ∙ c.requires.levels.level c.t-item.result.lit.var (not c.t-item.result.lit.yes) r.1 in
    let g = c.greater_below-back.ensures in
    let cur : c.level-current.result ≡ level_of c.args.trail.now.entries = c.level-current.ensures in
    let P : ℕ → ℕ → Type 0 = λ x m. (x ≢ m → x ≤ c.greater_below-back.result) × ((c.greater_below-back.result ≡ c.loop-t.back) ⊎ ((c.greater_below-back.result ≡ x) × (x ≢ m))) in
    let Q : ℕ → Type 0 = λ x. P x c.level-current.result in
    let R : ℕ → Type 0 = λ m. P (level_in c.args.trail.now.entries c.t-item.result.lit.var) m in
    let h = subst R cur (subst Q lv (g.above, g.either)) in
    below_more c.args.trail.now.entries c.terms-t-items.result.now c.loop-t.t-index c.t-item.result c.loop-t.back c.greater_below-back.result c.loop-t-test.true at g.kept h.0 h.1 c.loop-t.invariant
