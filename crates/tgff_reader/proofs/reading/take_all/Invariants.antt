use Rattle.std.proofs.Common.{List, length}
use Rattle.line_words.specs.Rules.{Statement}
use Rattle.tgff_reader.specs.Taking.{reading_of}
use Rattle.tgff_reader.proofs.Going.{IsDone}
use Rattle.tgff_reader.proofs.reading.take_all.Given as goal

-- some lines are done, and what stands then is what they state
abbrev pub invariant-lines : goal.invariant-lines
invariant-lines l = (done : List Statement) × IsDone done l.lines l.state (reading_of l.fn.lines)

abbrev pub decreases-lines : goal.decreases-lines
decreases-lines l = length l.lines.lines
