-- The lines of a proof file, as words and as text.
use Rattle.std.specs.Prelude.{ℕ, List, ◌∷◌, map, codes, decimal}
use Rattle.line_words.specs.Rules.{Words}
use Rattle.spelled_lines.specs.Lines.{spelled}
use Rattle.pb_rules.specs.declared.Op.{Op}
use Rattle.pb_rules.specs.Frames.{Line, derived, cover}
use Rattle.proof_words.specs.Words.{op_text}

-- the words of a derived line: `p`, and one for each operation
abbrev pub derivation_words : List Op → Words
derivation_words ops = codes "p" ∷ map op_text ops

-- the words of a cover: `c`, and its numbers
abbrev pub cover_words : List ℕ → Words
cover_words v = codes "c" ∷ map decimal v

abbrev pub derivation_text : List Op → List ℕ
derivation_text ops = spelled (derivation_words ops)

abbrev pub cover_text : List ℕ → List ℕ
cover_text v = spelled (cover_words v)

-- the text of a line of a log
abbrev pub line_text : Line → List ℕ
line_text (derived ops) = derivation_text ops
line_text (cover v) = cover_text v
