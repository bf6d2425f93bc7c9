use Rattle.std.proofs.Common.{◌≡◌, take, map}
use Rattle.line_words.specs.Rules.{said}
use Rattle.arch_reader.specs.Numbers.{all_misread, column_misread, key_column}
use Rattle.arch_reader.proofs.numbers.read_columns.Given as goal

-- the words so far
abbrev pub invariant-loop-word : goal.invariant-loop-word
invariant-loop-word l = record {
  items : l.items.items ≡ map (key_column l.mark) (said (take l.word-index l.words));
  misread : l.misread ≡ all_misread (column_misread l.mark) (said (take l.word-index l.words));
}
