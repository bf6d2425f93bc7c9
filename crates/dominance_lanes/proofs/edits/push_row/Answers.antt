use Rattle.std.proofs.Common.{arith, ◌≡◌, ◌∙◌, sym, ap, map, take, length, vec_items}
use Rattle.std.proofs.lemmas.List.{length-map}
use Rattle.dominance_lanes.proofs.ColumnEdits.{row_more, row_same, cut, push_made, push_failed}
use Rattle.dominance_lanes.proofs.edits.push_row.Goals as goal

pub returns-then-is_err-clause-err : goal.returns-then-is_err-clause-err
returns-then-is_err-clause-err c =
    let kept = push_failed c.push.result _ _ _ c.push.ensures.items (sym c.if-is_err.true ∙ c.is_err.ensures.value) in
    c.truncate_each.ensures
    ∙ ap (map (take c.args.len)) (row_same vec_items c.loop-j.columns c.loop-j.j c.index-columns-j.result c.push.new.self c.index-columns-j.is kept ∙ c.loop-j.invariant)
    ∙ cut c.args.len (map vec_items c.args.columns.now) (take c.loop-j.j c.args.v.now) c.requires.even

pub loop-j-preserved : goal.loop-j-preserved
loop-j-preserved c =
    let old = map vec_items c.args.columns.now in
    let made = push_made c.push.result _ _ _ c.push.ensures.items (sym c.if-is_err.false ∙ c.is_err.ensures.value) in
    let same : length c.loop-j.columns ≡ length old = omega (arith, length-map c.args.columns.now vec_items, c.loop-j.auto.columns) in
    row_more vec_items c.loop-j.columns old c.args.v.now c.loop-j.j c.index-columns-j.result c.push.new.self (omega (arith, c.loop-j.auto.columns)) same c.loop-j-test.true c.index-columns-j.is
    made c.loop-j.invariant
