use Rattle.std.proofs.Common.{◌≡◌, ◌*◌, ◌≤◌, ◌^◌, take, sum_by}
use Rattle.spec_graph.specs.Sums.{kept_terms}
use Rattle.spec_graph.proofs.sums.sum_terms.Given as goal

abbrev pub invariant-loop-message : goal.invariant-loop-message
invariant-loop-message l = record {
  sum : l.sum ≡ sum_by (kept_terms l.counts l.resources l.arcs l.most) (take l.message-index l.messages);
  small : l.sum ≤ l.message-index * 2 ^ 90;
}
