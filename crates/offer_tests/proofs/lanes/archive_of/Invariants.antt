use Rattle.std.proofs.Common.{◌≡◌}
use Rattle.offer_tests.proofs.lanes.archive_of.Given as goal

abbrev pub invariant-loop-place : goal.invariant-loop-place
invariant-loop-place l = l.archive.width ≡ 2
