use Rattle.std.proofs.Common.{◌≡◌, map, drop}
use Rattle.run_words.specs.Tools.{are_apart}
use Rattle.run_words.proofs.tools.are_apart.Given as goal

abbrev pub invariant-loop-i : goal.invariant-loop-i
invariant-loop-i l = are_apart (map (λ p. p.now) (drop l.i l.named)) ≡ are_apart (map (λ p. p.now) l.named)
