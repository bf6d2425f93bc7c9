-- Words of a generator by their numbers, and lines that take the next ones.
use Rattle.std.specs.Prelude.{ℕ, ◌+◌, List, [], ◌∷◌, ◌++◌}
use Rattle.line_words.specs.Rules.{Words}
use Rattle.genotype.specs.Draws.{after_words}

-- word number k, from 0
abbrev pub Stream : Type 0
Stream = ℕ → ℕ

-- the words that a state gives from now on
abbrev pub stream_of : {S : Type 0} → (S → ℕ) → (S → S) → S → Stream
stream_of gives after s k = gives (after_words after k s)

-- the words after the first n
abbrev pub later : ℕ → Stream → Stream
later n words k = words (n + k)

-- the lines of items one after another, where each takes the next n words
abbrev pub taking : {X : Type 0} → ℕ → (Stream → X → List Words) → Stream → List X → List Words
taking n lines words [] = []
taking n lines words (x ∷ xs) = lines words x ++ taking n lines (later n words) xs
