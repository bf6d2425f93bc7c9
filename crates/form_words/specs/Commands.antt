-- The command of `clap` that a table makes, and what it makes of words.
use Rattle.std.specs.Prelude.{◌≡◌, ◌∷◌, [], Bool, true, false, List, Option, Some, None, fold, map}
use Rattle.clap.specs.Kinds.{Kinds}
use Rattle.clap.specs.Faults.{fault_of}
use Rattle.clap.specs.Walk.{Rule, rows_of}
use Rattle.clap.specs.Words.{found_of}
use Rattle.clap.specs.Simple.{App, matches_of, new_app, new_rule, on_top, with_rule}
use Rattle.clap.specs.declared.parser.matches.ArgMatches.{ArgMatches}
use Rattle.form_words.specs.Line.{Text}
use Rattle.form_words.specs.Table.{Table}

-- a place, which has to be filled
abbrev pub place_rule : Text → Rule
place_rule id = record (new_rule id) { required = true }

-- an option with one value, which may have to be there
abbrev pub option_rule : Text → Bool → Rule
option_rule id required = record (new_rule id) { long = Some id; required = required }

-- the option of an entry of a table
abbrev pub option_of : Text × Bool → Rule
option_of o = option_rule o.0 o.1

-- a command that takes no program's name and has no help flag
abbrev pub bare_app : Text → App
bare_app title = on_top (λ s. record s { no_binary_name = true; disable_help_flag = true }) (new_app title)

-- a command with further arguments
abbrev pub with_rules : App → List Rule → App
with_rules = fold with_rule

-- the command of a table
abbrev pub table_app : Text → Table → App
table_app title t = with_rules (with_rules (bare_app title) (map place_rule t.places)) (map option_of t.options)

-- no kind of error is there
abbrev pub is_nothing : Kinds → Bool
is_nothing [] = true
is_nothing (k ∷ ks) = false

-- the command takes the words with these matches, or refuses them
abbrev pub ParsesTo : App → List Text → Option ArgMatches → Type 0
ParsesTo app words None = is_nothing (fault_of app words) ≡ false
ParsesTo app words (Some m) = (is_nothing (fault_of app words) ≡ true) × (rows_of (found_of m) ≡ matches_of app words)
