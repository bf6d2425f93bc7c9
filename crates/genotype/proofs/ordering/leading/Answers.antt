use Rattle.std.proofs.Common.{◌≡◌, List, sym, subst, rules}
use Rattle.std.specs.List.Sorted.{IsPermutation, IsSortedByKey}
use Rattle.std.specs.Ordering.{nat_cmp}
use Rattle.std.proofs.lemmas.List.Sorted.{IsNonDecreasingBy-from_sort_by_key, ties_still_rise}
use Rattle.std.proofs.lemmas.Fn.{always_returns_same}
use Rattle.pb_rules.specs.Literal.{Literal}
use Rattle.variable_order.specs.Order.{var_of}
use Rattle.genotype.specs.Placing.{lateness}
use Rattle.genotype.proofs.Placing.{led, by_number_sorted}
use Rattle.genotype.proofs.ordering.leading.Goals as goal

pub returns : goal.returns
returns c =
    let genes = c.args.genes.now in
    let old = c.in_ok-literals.literals.items in
    let new = c.sort_by_key.new.self.items in
    let start : IsSortedByKey var_of nat_cmp old = subst (IsSortedByKey var_of nat_cmp) (sym c.in_ok-literals.ensures) (by_number_sorted genes) in
    led genes new c.requires.small
    (subst (λ (xs : List Literal). IsPermutation xs new) c.in_ok-literals.ensures c.in_ok-sort_by_key.ensures.permutation)
    (IsNonDecreasingBy-from_sort_by_key (lateness genes) new c.in_ok-sort_by_key.ensures.sorted (λ a r q k. search rules))
    (ties_still_rise var_of (lateness genes) old new start (c.in_ok-sort_by_key.ensures.stable (lateness genes)
    (always_returns_same _ (λ a r. r ≡ lateness genes a.0.now) _ (λ a r q k. search rules))))
