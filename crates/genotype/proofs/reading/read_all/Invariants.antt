use Rattle.std.proofs.Common.{◌≡◌, ◌∷◌, [], length, List}
use Rattle.line_words.specs.Rules.{Statement}
use Rattle.line_words.specs.Run.{run}
use Rattle.spec_model.specs.Genotypes.{natural}
use Rattle.genotype.specs.Statements.{genotype_rules, least_from, with_all}
use Rattle.genotype.proofs.reading.read_all.Given as goal

-- Some statements are done after the header: reading on gives what the file gives, and what was seen is theirs.
abbrev pub invariant-lines : goal.invariant-lines
invariant-lines l = (head : Statement) × (done : List Statement)
    × (run (genotype_rules l.n) l.lines.number (head ∷ done) l.lines.lines ≡ run (genotype_rules l.n) l.fn.lines.number [] l.fn.lines.lines)
    × (l.seen.least ≡ least_from 0 done)
    × (l.seen.genotype ≡ with_all (natural l.n) done)
    × (length l.seen.genotype ≡ l.n)

abbrev pub decreases-lines : goal.decreases-lines
decreases-lines l = length l.lines.lines
