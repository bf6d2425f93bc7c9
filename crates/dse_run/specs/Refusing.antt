-- The line that refuses a file.
use Rattle.std.specs.Prelude.{ℕ, List, [], ◌++◌, codes, decimal}
use Rattle.line_words.specs.Refused.{refusal_number, name_of, what_name}
use Rattle.line_words.specs.declared.refusals.Why.{Why}
use Rattle.line_words.specs.declared.refusals.Why.TheVariants.{Limit}
use Rattle.line_words.specs.declared.refusals.Refusal.{Refusal}
use Rattle.line_words.specs.declared.refusals.FileTag.{FileTag}
use Rattle.line_words.specs.declared.refusals.FileTag.TheVariants.{Tgff, Arch, Genotype, Front, Script, Opb}
use Rattle.run_base.specs.Worlds.{NamesValue}

-- which limit a file passes, where it is refused for one
abbrev pub limit_text : Why → List ℕ
limit_text (Limit what) = codes " " ++ what_name what
limit_text why = []

-- where a file is refused: its word and the line
abbrev pub place_text : List ℕ → ℕ → List ℕ
place_text name line = codes "input " ++ name ++ codes " " ++ decimal line ++ codes " "

-- what it is refused for: the number and the name of the refusal
abbrev pub reason_text : Why → List ℕ
reason_text why = decimal (refusal_number why) ++ codes " " ++ name_of why ++ limit_text why ++ codes "\n"

-- the line that refuses a file
abbrev pub input_text : List ℕ → Refusal → List ℕ
input_text name r = place_text name r.line ++ reason_text r.why

-- the word of a file, by its kind: whatever is neither task graphs nor an architecture stands at the third place
abbrev pub word_of : NamesValue → FileTag → List ℕ
word_of names Tgff = names.tgff
word_of names Arch = names.arch
word_of names Genotype = names.third
word_of names Front = names.third
word_of names Script = names.third
word_of names Opb = names.third
