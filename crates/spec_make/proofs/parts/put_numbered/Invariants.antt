use Rattle.std.proofs.Common.{take}
use Rattle.std.specs.List.{enumerate_from}
use Rattle.spec_make.specs.Made.{link_lines}
use Rattle.spec_make.proofs.Drawing.{Written}
use Rattle.spec_make.proofs.parts.put_numbered.Given as goal

abbrev pub invariant-loop-e : goal.invariant-loop-e
invariant-loop-e g l = Written g.W.Words.gives g.W.Words.after 1 link_lines l.fn.words l.fn.text.items (take l.e (enumerate_from 0 l.all)) l.text.items l.words
