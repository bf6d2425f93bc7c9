use Rattle.std.proofs.Common.{◌≡◌, ◌+◌, ◌∷◌, length, List}
use Rattle.line_words.specs.Rules.{Statement as Line}
use Rattle.line_words.specs.Run.{run}
use Rattle.arch_reader.specs.Arch.{arch_rules}
use Rattle.arch_reader.specs.Taking.{reading_of}
use Rattle.arch_reader.proofs.Kept.{IsTaken}
use Rattle.arch_reader.proofs.reading.take_all.Given as goal

-- Some statements are done after the header: reading on gives what the file gives, and what was taken is theirs.
abbrev pub invariant-lines : goal.invariant-lines
invariant-lines l = (header : Line) × (done : List Line)
    × (run arch_rules l.lines.number (header ∷ done) l.lines.lines ≡ reading_of l.fn.lines)
    × IsTaken l.taken done
    × (l.lines.number + length l.lines.lines ≡ l.fn.lines.number + length l.fn.lines.lines)

abbrev pub decreases-lines : goal.decreases-lines
decreases-lines l = length l.lines.lines
