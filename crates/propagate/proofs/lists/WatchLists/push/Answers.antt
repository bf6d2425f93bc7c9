use Rattle.std.proofs.Common.{rules, ◌∙◌, List, [], ◌∷◌, ◌++◌, ap}
use Rattle.std.proofs.lemmas.List.{set-get_or}
use Rattle.propagate.specs.declared.lists.Watch.{Watch}
use Rattle.propagate.specs.Counters.{literal_number}
use Rattle.propagate.specs.Watches.{watches_of}
use Rattle.propagate.proofs.Tying.{lists_at, lists_set}
use Rattle.propagate.proofs.lists.WatchLists.push.Goals as goal

pub returns-in_err-push-clause-err : goal.returns-in_err-push-clause-err
returns-in_err-push-clause-err c =
    let vs = c.self.inside.lists.items in
    let k = literal_number c.args.lit in
    let lists = c.args.self.now in
    let none : List Watch = [] in
    let own = lists_at vs (λ v. v.items) lists c.number_of.result k c.index_mut.result.now c.self.view_is c.number_of.ensures c.requires c.index_mut.ensures.value in
    let e = lists_set vs (λ v. v.items) lists c.number_of.result k c.push.new.self (watches_of lists k) c.self.view_is c.number_of.ensures (c.in_err-push.ensures.items ∙ own) in
    let h = e ∙ set-get_or lists k none in
    search (rules, h)

pub returns-clause-ok : goal.returns-clause-ok
returns-clause-ok c =
    let vs = c.self.inside.lists.items in
    let k = literal_number c.args.lit in
    let lists = c.args.self.now in
    let own = lists_at vs (λ v. v.items) lists c.number_of.result k c.index_mut.result.now c.self.view_is c.number_of.ensures c.requires c.index_mut.ensures.value in
    lists_set vs (λ v. v.items) lists c.number_of.result k c.push.new.self (watches_of lists k ++ c.args.one ∷ []) c.self.view_is c.number_of.ensures
    (c.in_ok-push.ensures.items ∙ ap (λ (us : List Watch). us ++ c.args.one ∷ []) own)
