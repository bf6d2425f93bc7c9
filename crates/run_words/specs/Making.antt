-- The request of the words after `make`.
use Rattle.std.specs.Prelude.{◌∷◌, [], ℕ, true, false, List, Option, Some, None, codes, if◌then◌else◌, option_and_then, option_map}
use Rattle.form_words.specs.Line.{Text, Use, line, value_under}
use Rattle.form_words.specs.Table.{Table, form_of}
use Rattle.run_words.specs.Exploring.{most_rounds}
use Rattle.run_words.specs.Names.{is_file}
use Rattle.run_words.specs.Numbers.{number_from, number_up_to}

-- one place and two options, of which the file has to be there
abbrev pub make_table : Table
make_table = record { places = codes "number" ∷ []; options = (codes "arch", true) ∷ (codes "rounds", false) ∷ [] }

-- the table in words
abbrev pub make_usage : Text
make_usage = codes "usage: dse make N --arch FILE [--rounds K]\n"

-- the number that the specification is made from; the name of the file that its text is written to; and how many rounds it is explored, where that is given
pub record MakingValue : Type 0 where
  pub number : ℕ
  pub arch : Text
  pub rounds : Option ℕ

-- the rounds, which may not be given: none of a word that writes no such number
abbrev pub rounds_if_given : Option Text → Option (Option ℕ)
rounds_if_given None = Some None
rounds_if_given (Some text) = option_map (λ n. Some n) (number_up_to most_rounds text)

-- the request of a number and rounds, with the name of the file
abbrev pub make_numbered : Text → Option ℕ → Option (Option ℕ) → Option MakingValue
make_numbered arch (Some number) (Some rounds) = if is_file arch
    then Some (record { number = number; arch = arch; rounds = rounds })
    else None
make_numbered arch _ _ = None

-- the request of the word at the place and of those of the options
abbrev pub make_with : Option Text → Option Text → Option Text → Option MakingValue
make_with (Some number) (Some arch) rounds = make_numbered arch (number_from 0 number) (rounds_if_given rounds)
make_with _ _ rounds = None

-- the request of the values of a line
abbrev pub make_of : List Use → Option MakingValue
make_of us = make_with (value_under (codes "number") us) (value_under (codes "arch") us) (value_under (codes "rounds") us)

-- the request of the words
unfoldable pub make_request : List Text → Option MakingValue
make_request words = option_and_then make_of (line (form_of make_table) words)
