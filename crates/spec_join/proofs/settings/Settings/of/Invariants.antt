use Rattle.std.proofs.Common.{◌≡◌}
use Rattle.arch_reader.specs.Seen.{seen}
use Rattle.arch_reader.proofs.Places.{before_place}
use Rattle.spec_join.specs.Joining.{settings_of}
use Rattle.spec_join.proofs.settings.Settings.of.Given as goal

abbrev pub invariant-loop-line : goal.invariant-loop-line
invariant-loop-line l = l.settings ≡ settings_of (seen (before_place l.lines l.line-index))
