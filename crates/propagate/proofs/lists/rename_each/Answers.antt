use Rattle.std.proofs.Common.{◌≡◌, ◌∙◌, List, length, map, get_or, vec_items, ap, arith}
use Rattle.std.specs.Vec.{with_items}
use Rattle.std.proofs.lemmas.List.{length-map, with_items_is}
use Rattle.propagate.specs.declared.lists.Watch.{Watch}
use Rattle.propagate.specs.Watches.{renamed_watch}
use Rattle.propagate.proofs.Emptying.{through_more}
use Rattle.propagate.proofs.lists.rename_each.Goals as goal

pub loop-list-preserved : goal.loop-list-preserved
loop-list-preserved c =
    let old = map vec_items c.args.lists.now in
    let now = c.loop-list.lists in
    let i = c.loop-list.list-index in
    let v = c.list-item.result in
    let test = c.loop-list-test.true in
    let len = length-map c.args.lists.now vec_items in
    let same : length now ≡ length old = omega (arith, len, c.loop-list.auto.lists) in
    let renamed : List Watch → List Watch = λ us. map (renamed_watch c.args.moves.now) us in
    let n = ap (λ (us : List Watch). length us) c.deref_mut.ensures.value in
    let m = ap (λ (us : List Watch). length us) c.rename_in.ensures in
    let k = length-map c.deref_mut.result.now (renamed_watch c.args.moves.now) in
    let own = get_or now i v in
    let is = with_items_is own c.rename_in.new.list (omega (arith, n, m, k, own.ok.0)) ∙ c.rename_in.ensures ∙ ap renamed c.deref_mut.ensures.value in
    through_more now vec_items renamed old i v (with_items own c.rename_in.new.list) (omega arith) same c.list-item.is is c.loop-list.invariant
