use Rattle.std.proofs.Common.{◌≡◌, ◌≤◌, ◌^◌, length, take, All}
use Rattle.spec_join.specs.Joining.{weighed_all, no_weights}
use Rattle.spec_join.proofs.joiner.Joiner.weights_of.Given as goal

abbrev pub invariant-loop-word : goal.invariant-loop-word
invariant-loop-word l = record {
  value : l.row.items ≡ weighed_all l.self (no_weights l.self) (take l.word-index l.words);
  one_each : length l.row.items ≡ length l.self.plan.objectives;
  small : All (λ w. w ≤ 2 ^ 40) l.row.items;
}
