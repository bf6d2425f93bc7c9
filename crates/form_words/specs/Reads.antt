-- What the matches of a command have to do with a line.
use Rattle.std.specs.Prelude.{◌≡◌, List, Option, Some, None}
use Rattle.clap.specs.Words.{first_value, found_of}
use Rattle.clap.specs.declared.parser.matches.ArgMatches.{ArgMatches}
use Rattle.form_words.specs.Line.{Text, Form, Use, line, value_under}

-- the matches have the values of the line that the words are, or the words are no line of the form
abbrev pub Reads : Form → List Text → Option ArgMatches → Type 0
Reads f words None = line f words ≡ None
Reads f words (Some m) = (us : List Use) × (line f words ≡ Some us) × ((id : Text) → first_value (found_of m) id ≡ value_under id us)
