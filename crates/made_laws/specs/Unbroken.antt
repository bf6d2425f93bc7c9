-- Made lines break no rule of the architecture file, and what is read of them is what was written.
use Rattle.std.specs.Prelude.{ℕ, ◌≤◌, ◌<◌, ◌^◌, List, [], length}
use Rattle.line_words.specs.Limits.{most_file_bytes}
use Rattle.line_words.specs.Rules.{Words, Statement, Test}
use Rattle.file_bricks.specs.Headed.{after_header}
use Rattle.arch_reader.specs.Arch.{is_header, later, arch_rules}
use Rattle.spec_make.specs.Streams.{Stream}
use Rattle.spec_make.specs.Mesh.{side_of}
use Rattle.spec_make.specs.Made.{made_lines, words_of_seed, made_text}
use Rattle.made_laws.specs.Reading.{BreakNone, IsReadBack}

-- each word of a stream has 32 bits
abbrev pub AreOf32Bits : Stream → Type 0
AreOf32Bits words = (k : ℕ) → words k < 2 ^ 32

-- what a statement of an architecture file is tried by, after the statements before it
abbrev pub arch_tests : List Statement → Words → List Test
arch_tests = after_header is_header later

-- on a mesh of each side, whatever is drawn, each line breaks no rule after the lines before it
abbrev pub MadeLinesBreakNone : Type 0
MadeLinesBreakNone = (side : ℕ) (words : Stream) → 2 ≤ side → side ≤ 5 → AreOf32Bits words → BreakNone arch_tests 1 [] (made_lines side words)

-- the text of each number isn't too long for a file
abbrev pub MadeTextIsShort : Type 0
MadeTextIsShort = (number : ℕ) → length (made_text number) ≤ most_file_bytes

-- the text of each number is read as the words of its lines, and breaks no rule
abbrev pub MadeTextIsReadBack : Type 0
MadeTextIsReadBack = (number : ℕ) → IsReadBack arch_rules (made_lines (side_of number) (words_of_seed number))
