use Rattle.std.proofs.Common.{◌-◌, ◌≤◌}
use Rattle.std.specs.List.{filter, range_with_len}
use Rattle.spec_make.specs.Mesh.{has_message}
use Rattle.spec_make.specs.Made.{message_lines}
use Rattle.spec_make.proofs.Drawing.{Written}
use Rattle.spec_make.proofs.parts.put_messages.Given as goal

abbrev pub invariant-loop-i : goal.invariant-loop-i
invariant-loop-i g l = record {
  from : 1 ≤ l.i;
  so_far : Written g.W.Words.gives g.W.Words.after 1 (message_lines l.tasks) l.fn.words l.fn.text.items (filter has_message (range_with_len 1 (l.i - 1))) l.text.items l.words;
}
