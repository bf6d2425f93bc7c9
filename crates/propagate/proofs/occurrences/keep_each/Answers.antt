use Rattle.std.proofs.Common.{◌≡◌, length, map, filter, vec_items, arith}
use Rattle.std.proofs.lemmas.List.{length-map}
use Rattle.propagate.specs.Counters.{is_filled}
use Rattle.propagate.proofs.Emptying.{through_more}
use Rattle.propagate.proofs.occurrences.keep_each.Goals as goal

pub loop-list-preserved : goal.loop-list-preserved
loop-list-preserved c =
    let old = map vec_items c.args.lists.now in
    let now = c.loop-list.lists in
    let i = c.loop-list.list-index in
    let test = c.loop-list-test.true in
    let len = length-map c.args.lists.now vec_items in
    let same : length now ≡ length old = omega (arith, len, c.loop-list.auto.lists) in
    through_more now vec_items (filter (is_filled c.args.slots.now)) old i c.list-item.result c.keep_in.new.list (omega arith) same c.list-item.is c.keep_in.ensures c.loop-list.invariant
