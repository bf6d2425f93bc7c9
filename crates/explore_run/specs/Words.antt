-- Words that follow others on a line.
use Rattle.std.specs.Prelude.{ℕ, List, ◌∷◌}
use Rattle.std.specs.List.{flat_map}
use Rattle.line_words.specs.Rules.{Words}

-- a word after a space
abbrev pub after_space : List ℕ → List ℕ
after_space word = 32 ∷ word

-- words, each after a space
abbrev pub spaced : Words → List ℕ
spaced words = flat_map after_space words
