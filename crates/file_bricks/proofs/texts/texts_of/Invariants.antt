use Rattle.std.proofs.Common.{◌≡◌, take}
use Rattle.line_words.specs.Rules.{said}
use Rattle.file_bricks.proofs.texts.texts_of.Given as goal

-- the words so far
abbrev pub invariant-loop-word : goal.invariant-loop-word
invariant-loop-word l = l.texts.items ≡ said (take l.word-index l.words)
