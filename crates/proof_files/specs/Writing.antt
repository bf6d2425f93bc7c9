-- The file that a log is written to.
use Rattle.std.specs.Prelude.{ℕ, List, [], ◌∷◌, Option, Some, None}
use Rattle.desk_io.specs.Files.{Files}
use Rattle.proof_log.specs.Log.{LogValue}
use Rattle.proof_log.specs.Text.{proof_text}

-- the file that a log is written to, if one is named
abbrev pub files_of : Option (List ℕ) → LogValue → Files
files_of None log = []
files_of (Some name) log = (name, proof_text log.lines) ∷ []
