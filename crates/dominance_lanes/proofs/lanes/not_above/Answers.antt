use Rattle.std.proofs.Common.{◌≡◌, ◌+◌, ◌∙◌, ap, ap₂, map, get_or, vec_items, cond, ltb, refl}
use Rattle.dominance_lanes.specs.Columns.{row_at}
use Rattle.dominance_lanes.proofs.OneGroup.{lane_more, row_reads}
use Rattle.dominance_lanes.proofs.lanes.not_above.Goals as goal

pub loop-j-preserved : goal.loop-j-preserved
loop-j-preserved c =
    let column = c.index-columns-j.result.items in record {
      lanes = c.with_below-lanes.ensures.lanes;
      each = λ i lt.
          let loaded : get_or c.deref.result.now (c.args.at + i) 0 ≡ get_or column (c.args.at + i) 0 = ap (λ l. get_or l (c.args.at + i) 0) c.deref.ensures.value in
          let read = row_reads vec_items c.args.columns.now c.loop-j.j (c.args.at + i) c.index-columns-j.result c.loop-j-test.true c.index-columns-j.is in
          lane_more c.loop-j.j (get_or c.with_below-lanes.result i 0) (get_or c.loop-j.lanes i 0) (get_or c.args.v.now c.loop-j.j 0) (get_or column (c.args.at + i) 0) c.args.v.now
          (row_at (map vec_items c.args.columns.now) (c.args.at + i))
          (c.with_below-lanes.ensures.each i lt ∙ ap₂ (λ a b. cond (ltb a b) 1 (get_or c.loop-j.lanes i 0)) (c.load.ensures.each i lt ∙ loaded) (c.spread.ensures.each i lt))
          refl read (c.loop-j.invariant.each i lt);
    }
