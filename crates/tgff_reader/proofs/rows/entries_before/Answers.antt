use Rattle.std.proofs.Common.{ltb, rules}
use Rattle.std.proofs.lemmas.List.Sorted.{IsPartitionPoint-from_clause, IsPartitionedBy-ltb}
use Rattle.tgff_reader.specs.Rows.{order_of}
use Rattle.tgff_reader.specs.declared.rows.RowKind.{RowKind}
use Rattle.tgff_reader.proofs.RowKinds.{entry}
use Rattle.tgff_reader.proofs.rows.entries_before.Goals as goal

pub returns : goal.returns
returns c =
    let least = order_of (entry c.args.kind c.args.from) in
    let parted = IsPartitionedBy-ltb order_of _ least c.requires in
    IsPartitionPoint-from_clause (λ (k : RowKind). ltb (order_of k) least) _ _ c.partition_point.ensures.partitioned parted (λ a r q k. search rules)
