use Rattle.std.proofs.Common.{◌≡◌, take, map}
use Rattle.line_words.specs.Rules.{said}
use Rattle.result_text.specs.Stating.{number_in}
use Rattle.result_text.proofs.vectors.numbers_in.Given as goal

abbrev pub invariant-loop-word : goal.invariant-loop-word
invariant-loop-word l = l.numbers.items ≡ map number_in (said (take l.word-index l.words))
