-- What is said of a made specification and of its exploration.
use Rattle.std.specs.Prelude.{ℕ, List, [], ◌∷◌, ◌++◌, length, codes, decimal}
use Rattle.std.specs.List.{flat_map}
use Rattle.line_words.specs.Rules.{Words}
use Rattle.spelled_lines.specs.Lines.{spelled}
use Rattle.spec_model.specs.Spec.{SpecValue}
use Rattle.result_text.specs.Spelling.{vector_words}
use Rattle.front_archive.specs.declared.member.Member.{Member}
use Rattle.evo_explore.specs.declared.run.End.{End}
use Rattle.explore_run.specs.Saying.{rounds_words, archive_words, last_words}

-- what is counted, and how many there are
abbrev pub count_words : List ℕ → ℕ → Words
count_words counted count = counted ∷ decimal count ∷ []

-- the words of the first line: the number that the specification is made from, and how much it states
abbrev pub made_words : ℕ → SpecValue → Words
made_words number s =
    count_words (codes "made") number
    ++ count_words (codes "tasks") (length s.tasks)
    ++ count_words (codes "messages") (length s.messages)
    ++ count_words (codes "resources") (length s.resources)
    ++ count_words (codes "links") (length s.links)
    ++ count_words (codes "options") (length s.options)

-- the line of a member's vector
abbrev pub vector_text : Member → List ℕ
vector_text member = spelled (vector_words member.vector)

-- the lines of an exploration: how many rounds there were, how many members the archive has, their vectors, and how it ended
abbrev pub run_text : ℕ → List Member → End → List ℕ
run_text rounds members end =
    spelled (rounds_words rounds)
    ++ spelled (archive_words (length members))
    ++ flat_map vector_text members
    ++ spelled (last_words end)
