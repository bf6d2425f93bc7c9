use Rattle.std.proofs.Common.{arith, ◌+◌, ◌-◌, ◌≡◌, ◌<◌, ◌∙◌, ap, map, vec_len, vec_items}
use Rattle.dominance_lanes.proofs.ColumnEdits.{empty_more}
use Rattle.dominance_lanes.proofs.edits.complete.Goals as goal

pub loop-alloc-preserved : goal.loop-alloc-preserved
loop-alloc-preserved c =
    let longer : vec_len c.push.new.self ≡ vec_len c.loop-alloc.columns + 1 = c.in_ok-push.ensures.len in
    let room : vec_len c.loop-alloc.columns < c.args.width = omega (arith, c.loop-alloc-test.true, c.len.ensures) in record {
      more = ap (map vec_items) c.in_ok-push.ensures.items ∙ empty_more vec_items c.loop-alloc.columns.items (map vec_items c.args.columns.now.items) c.new.result
          (vec_len c.loop-alloc.columns - vec_len c.args.columns.now) (vec_len c.push.new.self - vec_len c.args.columns.now) c.new.ensures.items (omega arith) c.loop-alloc.invariant.more;
      longer = omega arith;
      bound = omega arith;
    }
