-- The request of the words after `check`.
use Rattle.std.specs.Prelude.{◌∷◌, ◌&&◌, [], Bool, List, Option, Some, None, codes, if◌then◌else◌, option_and_then}
use Rattle.form_words.specs.Line.{Text, Use, line, value_under}
use Rattle.form_words.specs.Table.{Table, form_of}
use Rattle.run_words.specs.Names.{is_name, is_file}

-- four places and no options
abbrev pub check_table : Table
check_table = record { places = codes "tgff" ∷ codes "arch" ∷ codes "front" ∷ codes "proof" ∷ []; options = [] }

-- the table in words
abbrev pub check_usage : Text
check_usage = codes "usage: dse check TGFF ARCH FRONT PROOF\n"

-- the names of the file of task graphs and tables, of the architecture file, of the front file and of the proof file
pub record CheckValue : Type 0 where
  pub tgff : Text
  pub arch : Text
  pub front : Text
  pub proof : Text

-- a file or `-` for the task graphs and tables, and files for the architecture, the front and the proof
abbrev pub are_checked : Text → Text → Text → Text → Bool
are_checked tgff arch front proof = is_name tgff && (is_file arch && (is_file front && is_file proof))

-- the request of the names at the places
abbrev pub check_with : Option Text → Option Text → Option Text → Option Text → Option CheckValue
check_with (Some tgff) (Some arch) (Some front) (Some proof) = if are_checked tgff arch front proof then Some (record { tgff = tgff; arch = arch; front = front; proof = proof }) else None
check_with _ _ _ _ = None

-- the request of the values of a line
abbrev pub check_of : List Use → Option CheckValue
check_of us = check_with (value_under (codes "tgff") us) (value_under (codes "arch") us) (value_under (codes "front") us) (value_under (codes "proof") us)

-- the request of the words
unfoldable pub check_request : List Text → Option CheckValue
check_request words = option_and_then check_of (line (form_of check_table) words)
