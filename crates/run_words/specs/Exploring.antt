-- The request of the words after `explore`.
use Rattle.std.specs.Prelude.{◌∷◌, ◌&&◌, [], ℕ, Bool, true, false, List, Option, Some, None, codes, if◌then◌else◌, option_and_then, option_map}
use Rattle.form_words.specs.Line.{Text, Use, line, value_under}
use Rattle.form_words.specs.Table.{Table, form_of}
use Rattle.run_words.specs.Names.{is_name, is_file, is_file_if_named, is_apart}
use Rattle.run_words.specs.Numbers.{number_from, number_up_to}
use Rattle.run_words.specs.Tools.{chosen_if_given}

-- two places and four options, of which the rounds and the seed have to be there
abbrev pub explore_table : Table
explore_table = record { places = codes "tgff" ∷ codes "arch" ∷ []; options = (codes "rounds", true) ∷ (codes "seed", true) ∷ (codes "measure", false) ∷ (codes "proof", false) ∷ [] }

-- the table in words
abbrev pub explore_usage : Text
explore_usage = codes "usage: dse explore TGFF ARCH --rounds N --seed S [--measure LIST] [--proof FILE]\n"

-- an exploration has at most so many rounds
abbrev pub most_rounds : ℕ
most_rounds = 65536

-- the names of the file of task graphs and tables and of the architecture file; how many rounds there are, from which number the words are drawn,
-- and the places of the tools that measure; and the name of the file that the proof is written to, where it is given
pub record ExploringValue : Type 0 where
  pub tgff : Text
  pub arch : Text
  pub rounds : ℕ
  pub seed : ℕ
  pub chosen : List ℕ
  pub proof : Option Text

-- a file or `-` for the task graphs and tables, a file for the architecture, and a file for the proof, which is none of the others
abbrev pub are_explored : Text → Text → Option Text → Bool
are_explored tgff arch proof = is_name tgff && (is_file arch && (is_file_if_named proof && is_apart proof (tgff ∷ arch ∷ [])))

-- the rounds and the seed
abbrev pub numbers_of : Text → Text → Option (ℕ × ℕ)
numbers_of rounds seed = option_and_then (λ n. option_map (λ m. (n, m)) (number_from 0 seed)) (number_up_to most_rounds rounds)

-- the request of the names, with the numbers and the places of the tools
abbrev pub explore_named : Text → Text → Option Text → Option (ℕ × ℕ) → Option (List ℕ) → Option ExploringValue
explore_named tgff arch proof (Some (rounds, seed)) (Some chosen) = if are_explored tgff arch proof
    then Some (record { tgff = tgff; arch = arch; rounds = rounds; seed = seed; chosen = chosen; proof = proof })
    else None
explore_named tgff arch proof _ _ = None

-- the request of the words at the places and of those of the options
abbrev pub explore_with : List Text → Option Text → Option Text → Option Text → Option Text → Option Text → Option Text → Option ExploringValue
explore_with tags (Some tgff) (Some arch) (Some rounds) (Some seed) measure proof =
    explore_named tgff arch proof (numbers_of rounds seed) (chosen_if_given tags measure)
explore_with tags _ _ _ _ measure proof = None

-- the request of the values of a line
abbrev pub explore_of : List Text → List Use → Option ExploringValue
explore_of tags us =
    explore_with tags (value_under (codes "tgff") us) (value_under (codes "arch") us) (value_under (codes "rounds") us) (value_under (codes "seed") us) (value_under (codes "measure") us)
    (value_under (codes "proof") us)

-- the request of the words, of tools with these tags
unfoldable pub explore_request : List Text → List Text → Option ExploringValue
explore_request tags words = option_and_then (explore_of tags) (line (form_of explore_table) words)
