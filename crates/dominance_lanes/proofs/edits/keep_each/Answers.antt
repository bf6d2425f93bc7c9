use Rattle.std.proofs.Common.{ℕ, Vec, Global, arith, [], ◌<◌, ◌≡◌, ap, subst, map, length, get_or, vec_items, vec_len}
use Rattle.std.proofs.lemmas.List.{length-map}
use Rattle.dominance_lanes.specs.Columns.{unmarked}
use Rattle.dominance_lanes.proofs.ColumnEdits.{seen_at, changed_more}
use Rattle.dominance_lanes.proofs.edits.keep_each.Goals as goal

pub keep_in-requires : goal.keep_in-requires
keep_in-requires c =
    let old = map vec_items c.args.columns.now in
    let same : length c.loop-column.columns ≡ length old = omega (arith, length-map c.args.columns.now vec_items, c.loop-column.auto.columns) in
    let inside : c.loop-column.column-index < length c.loop-column.columns = omega (arith, c.loop-column.auto.columns) in
    let item = c.column-item.result in
    let seen = seen_at vec_items (unmarked c.args.marks.now) c.loop-column.columns old c.loop-column.column-index item [] inside same c.column-item.is c.loop-column.invariant in
    let long : length (get_or old c.loop-column.column-index []) ≡ length c.args.marks.now = c.requires c.loop-column.column-index [] (omega arith) in
    subst (λ (v : Vec ℕ Global). length c.args.marks.now ≡ vec_len v) c.column-item.is (omega (arith, ap length seen, item.ok.0))

pub loop-column-preserved : goal.loop-column-preserved
loop-column-preserved c =
    let old = map vec_items c.args.columns.now in
    let same : length c.loop-column.columns ≡ length old = omega (arith, length-map c.args.columns.now vec_items, c.loop-column.auto.columns) in
    let inside : c.loop-column.column-index < length c.loop-column.columns = omega (arith, c.loop-column.auto.columns) in
    changed_more vec_items (unmarked c.args.marks.now) c.loop-column.columns old c.loop-column.column-index c.column-item.result c.keep_in.new.column [] inside same c.column-item.is
    c.keep_in.ensures c.loop-column.invariant
