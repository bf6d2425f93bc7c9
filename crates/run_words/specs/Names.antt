-- The names of files on a command line.
use Rattle.std.specs.Prelude.{◌&&◌, Bool, true, not, List, Option, Some, None, codes, length, nat_lt}
use Rattle.std.specs.Str.{bytes_eq}
use Rattle.form_words.specs.Line.{Text, has_text}

-- `-`, which stands for no file
abbrev pub is_dash : Text → Bool
is_dash text = bytes_eq text (codes "-")

-- a name, which may be `-`
abbrev pub is_name : Text → Bool
is_name text = nat_lt 0 (length text)

-- the name of a file, which isn't `-`
abbrev pub is_file : Text → Bool
is_file text = is_name text && not (is_dash text)

-- the same of a file that may not be named
abbrev pub is_file_if_named : Option Text → Bool
is_file_if_named None = true
is_file_if_named (Some text) = is_file text

-- a file that is written is none of the others of the line
abbrev pub is_apart : Option Text → List Text → Bool
is_apart None others = true
is_apart (Some text) others = not (has_text others text)
