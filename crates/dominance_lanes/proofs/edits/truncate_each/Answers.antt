use Rattle.std.proofs.Common.{arith, [], ◌<◌, ◌≡◌, map, take, length, vec_items}
use Rattle.std.proofs.lemmas.List.{length-map}
use Rattle.dominance_lanes.proofs.ColumnEdits.{changed_more}
use Rattle.dominance_lanes.proofs.edits.truncate_each.Goals as goal

pub loop-column-preserved : goal.loop-column-preserved
loop-column-preserved c =
    let old = map vec_items c.args.columns.now in
    let same : length c.loop-column.columns ≡ length old = omega (arith, length-map c.args.columns.now vec_items, c.loop-column.auto.columns) in
    let inside : c.loop-column.column-index < length c.loop-column.columns = omega (arith, c.loop-column.auto.columns) in
    changed_more vec_items (take c.args.len) c.loop-column.columns old c.loop-column.column-index c.column-item.result c.truncate.new.self [] inside same c.column-item.is c.truncate.ensures.items
    c.loop-column.invariant
