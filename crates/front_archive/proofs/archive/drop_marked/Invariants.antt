use Rattle.std.proofs.Common.{◌≡◌, ◌≤◌, vec_len}
use Rattle.front_archive.proofs.Moved.{IsMoved}
use Rattle.front_archive.proofs.archive.drop_marked.Given as goal

abbrev pub invariant-loop-k : goal.invariant-loop-k
invariant-loop-k l = record {
  within : l.kept ≤ l.k;
  same_len : vec_len l.members ≡ vec_len l.fn.members;
  parts : IsMoved l.marks l.fn.members.items l.members.items l.k l.kept;
}
