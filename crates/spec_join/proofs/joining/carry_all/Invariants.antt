use Rattle.std.proofs.Common.{◌≡◌}
use Rattle.arch_reader.specs.Arch.{statements_in}
use Rattle.spec_join.specs.Reading.{after, NoneBreaks}
use Rattle.spec_join.proofs.joining.carry_all.Given as goal

abbrev pub invariant-loop-line : goal.invariant-loop-line
invariant-loop-line l = record {
  made : l.joiner ≡ after l.tgff (statements_in l.lines) l.line-index;
  none : NoneBreaks l.tgff (statements_in l.lines) l.line-index;
}
