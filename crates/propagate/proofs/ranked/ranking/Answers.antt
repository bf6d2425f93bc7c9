use Rattle.std.proofs.Common.{rules, ◌≡◌, List, subst}
use Rattle.std.specs.List.Sorted.{IsPermutation}
use Rattle.std.proofs.lemmas.List.Sorted.{IsNonDecreasingBy-from_sort_by_key}
use Rattle.pb_rules.specs.declared.Term.{Term}
use Rattle.propagate.proofs.Ranking.{below_greatest, ranking_from}
use Rattle.propagate.proofs.ranked.ranking.Goals as goal

pub returns : goal.returns
returns c =
    let e = c.in_ok-sort_by_key.ensures in
    let new = c.sort_by_key.new.self.items in
    let is : c.in_ok-ranked.ranked.items ≡ c.args.terms.now = c.in_ok-ranked.ensures.items in
    let P : List Term → Type 0 = λ us. IsPermutation us new in
    ranking_from c.args.terms.now new c.requires (subst P is e.permutation) (IsNonDecreasingBy-from_sort_by_key below_greatest _ e.sorted (λ a r q k. search rules))
