-- The request of the words after `front`.
use Rattle.std.specs.Prelude.{◌∷◌, ◌&&◌, [], ℕ, Bool, true, false, List, Option, Some, None, codes, if◌then◌else◌, option_and_then, option_map}
use Rattle.form_words.specs.Line.{Text, Use, line, value_under}
use Rattle.form_words.specs.Table.{Table, form_of}
use Rattle.run_words.specs.Names.{is_name, is_file, is_apart}
use Rattle.run_words.specs.Numbers.{number_if_given}

-- two places and three options, of which the two files have to be there
abbrev pub front_table : Table
front_table = record { places = codes "tgff" ∷ codes "arch" ∷ []; options = (codes "front", true) ∷ (codes "proof", true) ∷ (codes "budget", false) ∷ [] }

-- the table in words
abbrev pub front_usage : Text
front_usage = codes "usage: dse front TGFF ARCH --front FILE --proof FILE [--budget N]\n"

-- the names of the file of task graphs and tables and of the architecture file; the names of the files that the front and its proof are written to;
-- and how many derived lines the proof may have at most, where it is given
pub record FrontingValue : Type 0 where
  pub tgff : Text
  pub arch : Text
  pub front : Text
  pub proof : Text
  pub budget : Option ℕ

-- a file or `-` for the task graphs and tables, and a file for the architecture
abbrev pub are_read : Text → Text → Bool
are_read tgff arch = is_name tgff && is_file arch

-- two files that are written, each of which is none of the others
abbrev pub are_written : Text → Text → Text → Text → Bool
are_written tgff arch front proof = (is_file front && is_apart (Some front) (tgff ∷ arch ∷ [])) && (is_file proof && is_apart (Some proof) (tgff ∷ arch ∷ front ∷ []))

-- the request of the names, with the budget
abbrev pub front_named : Text → Text → Text → Text → Option (Option ℕ) → Option FrontingValue
front_named tgff arch front proof budget = if are_read tgff arch && are_written tgff arch front proof
    then option_map (λ n. record { tgff = tgff; arch = arch; front = front; proof = proof; budget = n }) budget
    else None

-- the request of the words at the places and of those of the options; a budget counts from 1
abbrev pub front_with : Option Text → Option Text → Option Text → Option Text → Option Text → Option FrontingValue
front_with (Some tgff) (Some arch) (Some front) (Some proof) budget = front_named tgff arch front proof (number_if_given 1 budget)
front_with _ _ _ _ budget = None

-- the request of the values of a line
abbrev pub front_of : List Use → Option FrontingValue
front_of us = front_with (value_under (codes "tgff") us) (value_under (codes "arch") us) (value_under (codes "front") us) (value_under (codes "proof") us) (value_under (codes "budget") us)

-- the request of the words
unfoldable pub front_request : List Text → Option FrontingValue
front_request words = option_and_then front_of (line (form_of front_table) words)
