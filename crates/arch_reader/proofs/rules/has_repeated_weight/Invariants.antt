use Rattle.std.proofs.Common.{◌≡◌, length}
use Rattle.arch_reader.specs.Tests.{has_repeat, amount_key, weights_of}
use Rattle.arch_reader.proofs.rules.has_repeated_weight.Given as goal

-- the words that are left have a repeated key where all have
abbrev pub invariant-keys : goal.invariant-keys
invariant-keys l = has_repeat amount_key l.left ≡ has_repeat amount_key (weights_of l.fn.statement)

abbrev pub decreases-keys : goal.decreases-keys
decreases-keys l = length l.left
