use Rattle.std.proofs.Common.{◌+◌, ◌<◌, ◌^◌, length}
use Rattle.line_words.specs.Text.{lines}
use Rattle.line_words.specs.Left.{Passes}
use Rattle.line_words.proofs.lines.Lines.next.Given as goal

abbrev pub invariant-loop-self : goal.invariant-loop-self
invariant-loop-self l = record {
  passes : Passes l.fn.self (record { number = l.self-inside.number; lines = lines l.self-inside.rest.now });
  small : l.self-inside.number + length l.self-inside.rest.now < 2 ^ 64;
}

abbrev pub decreases-loop-self : goal.decreases-loop-self
decreases-loop-self l = length l.self-inside.rest.now
