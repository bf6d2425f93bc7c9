-- The request of the words after `decode`.
use Rattle.std.specs.Prelude.{◌∷◌, ◌&&◌, [], ℕ, Bool, false, List, Option, Some, None, codes, if◌then◌else◌, is_some, option_and_then, option_map}
use Rattle.form_words.specs.Line.{Text, Use, line, value_under}
use Rattle.form_words.specs.Table.{Table, form_of}
use Rattle.run_words.specs.Names.{is_name, is_file, is_file_if_named, is_apart}
use Rattle.run_words.specs.Numbers.{number_if_given}

-- three places and two options, neither of which has to be there
abbrev pub decode_table : Table
decode_table = record { places = codes "tgff" ∷ codes "arch" ∷ codes "geno" ∷ []; options = (codes "budget", false) ∷ (codes "proof", false) ∷ [] }

-- the table in words
abbrev pub decode_usage : Text
decode_usage = codes "usage: dse decode TGFF ARCH GENO [--budget N] [--proof FILE]\n"

-- the names of the file of task graphs and tables, of the architecture file and of the genotype file;
-- how many derived lines the proof may have at most, and the name of the file that it is written to, where these are given
pub record DecodeValue : Type 0 where
  pub tgff : Text
  pub arch : Text
  pub geno : Text
  pub budget : Option ℕ
  pub proof : Option Text

-- a file or `-` for the task graphs and tables, a file for the architecture, and a file or `-` for the genotype
abbrev pub are_taken : Text → Text → Text → Bool
are_taken tgff arch geno = is_name tgff && (is_file arch && is_name geno)

-- a file for the proof, which is none of the others
abbrev pub is_written : Text → Text → Text → Option Text → Bool
is_written tgff arch geno proof = is_file_if_named proof && is_apart proof (tgff ∷ arch ∷ geno ∷ [])

-- the budget, from 1 on, which may not stand without a proof
abbrev pub budget_with : Option Text → Option Text → Option (Option ℕ)
budget_with budget (Some proof) = number_if_given 1 budget
budget_with budget None = if is_some budget then None else Some None

-- the request of the names, with the budget
abbrev pub decode_named : Text → Text → Text → Option Text → Option (Option ℕ) → Option DecodeValue
decode_named tgff arch geno proof budget = if are_taken tgff arch geno && is_written tgff arch geno proof
    then option_map (λ n. record { tgff = tgff; arch = arch; geno = geno; budget = n; proof = proof }) budget
    else None

-- the request of the words at the places and of those of the options
abbrev pub decode_with : Option Text → Option Text → Option Text → Option Text → Option Text → Option DecodeValue
decode_with (Some tgff) (Some arch) (Some geno) budget proof = decode_named tgff arch geno proof (budget_with budget proof)
decode_with _ _ _ budget proof = None

-- the request of the values of a line
abbrev pub decode_of : List Use → Option DecodeValue
decode_of us = decode_with (value_under (codes "tgff") us) (value_under (codes "arch") us) (value_under (codes "geno") us) (value_under (codes "budget") us) (value_under (codes "proof") us)

-- the request of the words
unfoldable pub decode_request : List Text → Option DecodeValue
decode_request words = option_and_then decode_of (line (form_of decode_table) words)
