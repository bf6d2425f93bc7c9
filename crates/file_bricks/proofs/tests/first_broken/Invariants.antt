use Rattle.std.proofs.Common.{◌≡◌, length}
use Rattle.line_words.specs.Rules.{first_broken}
use Rattle.file_bricks.proofs.tests.first_broken.Given as goal

-- the tests that are left have the first broken one
abbrev pub invariant-tests : goal.invariant-tests
invariant-tests l = first_broken l.left ≡ first_broken l.fn.tests

abbrev pub decreases-tests : goal.decreases-tests
decreases-tests l = length l.left
