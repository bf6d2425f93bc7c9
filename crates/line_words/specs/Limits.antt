-- The limits of text files, whatever their kind. Those of a specification stand with its definition.
use Rattle.std.specs.Prelude.{ℕ}

-- the most bytes of a file
abbrev pub most_file_bytes : ℕ
most_file_bytes = 16777216

-- the most bytes of a line, its LF not among them
abbrev pub most_line_bytes : ℕ
most_line_bytes = 65536

-- the most bytes of a name
abbrev pub most_name_bytes : ℕ
most_name_bytes = 64
