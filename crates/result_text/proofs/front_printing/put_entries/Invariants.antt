use Rattle.std.proofs.Common.{◌≡◌, ◌++◌, take, map}
use Rattle.result_text.specs.Answers.{as_seen}
use Rattle.result_text.specs.Fronts.{entries_text}
use Rattle.result_text.proofs.front_printing.put_entries.Given as goal

abbrev pub invariant-loop-i : goal.invariant-loop-i
invariant-loop-i l = l.text.items ≡ l.fn.text.items ++ entries_text l.spec 1 (map as_seen (take l.i l.entries))
