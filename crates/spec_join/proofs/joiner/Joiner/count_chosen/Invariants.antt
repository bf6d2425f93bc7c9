use Rattle.std.proofs.Common.{◌≡◌, ◌≤◌, length}
use Rattle.spec_model.specs.Spec.{Name}
use Rattle.tgff_reader.specs.Looking.{table_at}
use Rattle.spec_join.specs.Tables.{made_choices}
use Rattle.spec_join.proofs.joiner.Joiner.count_chosen.Given as goal

abbrev pub invariant-loop-t : goal.invariant-loop-t
invariant-loop-t l = record {
  few : l.count ≤ l.t;
  count : (resource : Name) → l.count ≡ length (made_choices l.self (table_at l.self.tables l.table) resource l.keys l.t);
}
