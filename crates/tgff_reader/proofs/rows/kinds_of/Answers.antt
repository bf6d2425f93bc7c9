use Rattle.std.proofs.Common.{List, subst, rules}
use Rattle.std.specs.List.Sorted.{IsPermutation}
use Rattle.std.proofs.lemmas.List.Sorted.{IsNonDecreasingBy-from_sort_by_key}
use Rattle.tgff_reader.specs.Rows.{order_of}
use Rattle.tgff_reader.specs.declared.rows.RowKind.{RowKind}
use Rattle.tgff_reader.proofs.RowKinds.{sorted_kinds}
use Rattle.tgff_reader.proofs.rows.kinds_of.Goals as goal

pub returns : goal.returns
returns c =
    let new = c.sort_by_key.new.self.items in
    sorted_kinds c.args.rows.now new
    (subst (λ (ks : List RowKind). IsPermutation ks new) c.in_ok-kinds.ensures c.in_ok-sort_by_key.ensures.permutation)
    (IsNonDecreasingBy-from_sort_by_key order_of new c.in_ok-sort_by_key.ensures.sorted (λ a r q k. search rules))
