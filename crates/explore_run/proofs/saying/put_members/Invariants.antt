use Rattle.std.proofs.Common.{◌≡◌, ◌++◌, take, map}
use Rattle.result_text.specs.Fronts.{entries_text}
use Rattle.explore_run.specs.Saying.{entry_of}
use Rattle.explore_run.proofs.saying.put_members.Given as goal

abbrev pub invariant-loop-i : goal.invariant-loop-i
invariant-loop-i l = l.out.items ≡ l.fn.out.items ++ entries_text l.spec 1 (map entry_of (take l.i l.members))
