-- What is said of an exploration.
use Rattle.std.specs.Prelude.{ℕ, List, [], ◌∷◌, ◌++◌, length, map, codes, decimal}
use Rattle.line_words.specs.Rules.{Words}
use Rattle.spelled_lines.specs.Lines.{spelled}
use Rattle.spec_model.specs.Spec.{SpecValue}
use Rattle.result_text.specs.Answers.{EntryValue}
use Rattle.result_text.specs.Fronts.{entries_text}
use Rattle.front_archive.specs.declared.member.Member.{Member}
use Rattle.evo_explore.specs.declared.run.End.{End}
use Rattle.evo_explore.specs.declared.run.End.TheVariants.{Done, Infeasible}

-- the words of the first line
abbrev pub header_words : Words
header_words = codes "explore" ∷ codes "1" ∷ []

-- the words of the line that names the numbers of a vector: the objectives, and the tags of the tools that measure
abbrev pub names_words : SpecValue → List (List ℕ) → Words
names_words s tags = codes "names" ∷ (s.objectives ++ tags)

-- the words of the line of the rounds
abbrev pub rounds_words : ℕ → Words
rounds_words rounds = codes "rounds" ∷ decimal rounds ∷ []

-- the words of the line of the archive
abbrev pub archive_words : ℕ → Words
archive_words members = codes "archive" ∷ decimal members ∷ []

-- the words of the last line: `none` where no design is valid
abbrev pub last_words : End → Words
last_words Done = codes "done" ∷ []
last_words Infeasible = codes "none" ∷ []

-- a member as an entry: its design and its vector
abbrev pub entry_of : Member → EntryValue
entry_of member = record { design = member.design; vector = member.vector }

-- the text of an exploration: the names of the numbers, how many rounds there were, each member of the archive under its number from 1, and how it ended
abbrev pub explored_text : SpecValue → List (List ℕ) → ℕ → List Member → End → List ℕ
explored_text s tags rounds members end =
    spelled header_words
    ++ spelled (names_words s tags)
    ++ spelled (rounds_words rounds)
    ++ spelled (archive_words (length members))
    ++ entries_text s 1 (map entry_of members)
    ++ spelled (last_words end)
