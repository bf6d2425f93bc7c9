use Rattle.std.proofs.Common.{◌≡◌, ◌≤◌, ◌^◌, length, fold, take, All}
use Rattle.tgff_reader.specs.Looking.{table_at, row_at}
use Rattle.spec_join.specs.Joining.{no_weights}
use Rattle.spec_join.specs.Tables.{weighed_from}
use Rattle.spec_join.proofs.joiner.Joiner.weights_from.Given as goal

abbrev pub invariant-loop-key : goal.invariant-loop-key
invariant-loop-key l = record {
  value : l.weights.items ≡ fold (weighed_from l.self (row_at (table_at l.self.tables l.table) l.row)) (no_weights l.self) (take l.key-index l.keys);
  one_each : length l.weights.items ≡ length l.self.plan.objectives;
  small : All (λ w. w ≤ 2 ^ 40) l.weights.items;
}
