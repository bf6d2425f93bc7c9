use Rattle.std.proofs.Common.{◌≡◌, length, map}
use Rattle.spec_graph.specs.Lists.{message_number}
use Rattle.spec_graph.proofs.Walking.{Seeing}
use Rattle.spec_graph.proofs.listed.marks_of.Given as goal

abbrev pub invariant-loop-m : goal.invariant-loop-m
invariant-loop-m l = record {
  long : length l.marks.items ≡ l.count;
  seeing : Seeing (map message_number l.listed) l.m-index l.marks.items;
}
