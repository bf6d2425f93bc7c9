use Rattle.std.proofs.Common.{length}
use Rattle.desk_io.proofs.held.+names_are_distinct.Given as goal

abbrev pub decreases-names_are_distinct : goal.decreases-names_are_distinct
decreases-names_are_distinct l = length l.files.now
