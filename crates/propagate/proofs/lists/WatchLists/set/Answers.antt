use Rattle.std.proofs.Common.{List, set, ap}
use Rattle.std.specs.Vec.{with_item}
use Rattle.propagate.specs.declared.lists.Watch.{Watch}
use Rattle.propagate.specs.Counters.{literal_number}
use Rattle.propagate.specs.Watches.{watches_of}
use Rattle.propagate.proofs.Tying.{lists_at, lists_set}
use Rattle.propagate.proofs.lists.WatchLists.set.Goals as goal

pub returns : goal.returns
returns c =
    let vs = c.self.inside.lists.items in
    let k = literal_number c.args.lit in
    let lists = c.args.self.now in
    let own = lists_at vs (λ v. v.items) lists c.number_of.result k c.index_mut.result.now c.self.view_is c.number_of.ensures c.requires.room c.index_mut.ensures.value in
    lists_set vs (λ v. v.items) lists c.number_of.result k (with_item c.index_mut.result.now c.args.place c.args.one) (set (watches_of lists k) c.args.place c.args.one) c.self.view_is
    c.number_of.ensures (ap (λ (ws : List Watch). set ws c.args.place c.args.one) own)
