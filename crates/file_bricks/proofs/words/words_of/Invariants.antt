use Rattle.std.proofs.Common.{◌≡◌, ◌++◌, length}
use Rattle.line_words.specs.Text.{words_in}
use Rattle.line_words.specs.Rules.{texts, said}
use Rattle.file_bricks.proofs.words.words_of.Given as goal

-- the words so far, and those that are left
abbrev pub invariant-each : goal.invariant-each
invariant-each l = said l.found.items ++ texts l.words ≡ texts (words_in l.fn.line.content)

abbrev pub decreases-each : goal.decreases-each
decreases-each l = length l.words
