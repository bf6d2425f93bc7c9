use Rattle.std.proofs.Common.{◌≡◌, take, map}
use Rattle.line_words.specs.Rules.{said}
use Rattle.arch_reader.specs.Numbers.{all_misread, amount_misread, key_amount}
use Rattle.arch_reader.proofs.numbers.read_amounts.Given as goal

-- the words so far
abbrev pub invariant-loop-word : goal.invariant-loop-word
invariant-loop-word l = record {
  items : l.items.items ≡ map key_amount (said (take l.word-index l.words));
  misread : l.misread ≡ all_misread amount_misread (said (take l.word-index l.words));
}
