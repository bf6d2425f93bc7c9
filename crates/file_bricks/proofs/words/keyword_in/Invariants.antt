use Rattle.std.proofs.Common.{◌≡◌, length, map}
use Rattle.file_bricks.specs.Words.{keyword_in, entry_said}
use Rattle.file_bricks.proofs.words.keyword_in.Given as goal

-- the entries that are left have what all have
abbrev pub invariant-entries : goal.invariant-entries
invariant-entries g l = keyword_in (map entry_said l.left) l.fn.word ≡ keyword_in (map entry_said l.fn.table) l.fn.word

abbrev pub decreases-entries : goal.decreases-entries
decreases-entries g l = length l.left
