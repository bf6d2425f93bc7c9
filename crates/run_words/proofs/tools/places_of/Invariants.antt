use Rattle.std.proofs.Common.{◌≡◌, ◌++◌, map, take, drop, string_bytes, []}
use Rattle.run_words.specs.Tools.{places_from}
use Rattle.run_words.proofs.tools.places_of.Given as goal

abbrev pub invariant-loop-i : goal.invariant-loop-i
invariant-loop-i l = l.places.items ++ places_from l.i (map (λ p. p.now) l.named) (map string_bytes (take l.i l.tags)) (map string_bytes (drop l.i l.tags))
    ≡ places_from 0 (map (λ p. p.now) l.named) [] (map string_bytes l.tags)
