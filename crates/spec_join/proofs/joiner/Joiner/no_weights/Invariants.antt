use Rattle.std.proofs.Common.{◌≡◌, ◌≤◌, ◌^◌, length, replicate, All}
use Rattle.spec_join.proofs.joiner.Joiner.no_weights.Given as goal

abbrev pub invariant-loop : goal.invariant-loop
invariant-loop l = record {
  value : l.row.items ≡ replicate l.counter 0;
  one_each : length l.row.items ≡ l.counter;
  small : All (λ w. w ≤ 2 ^ 40) l.row.items;
}
