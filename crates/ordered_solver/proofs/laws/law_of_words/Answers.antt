use Rattle.ordered_solver.proofs.Words.{word-lt, word-append, word_jump}
use Rattle.ordered_solver.proofs.laws.law_of_words.Goals as goal

pub returns : goal.returns
returns c = record { append = word-append; jump = word_jump; bound = word-lt }
