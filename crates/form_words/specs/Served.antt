-- What `clap` builds of the command of a table, and when that serves the table.
use Rattle.std.specs.Prelude.{◌≡◌, ◌∷◌, ◌++◌, ◌+◌, [], ℕ, Bool, true, false, List, Option, Some, None, map, min}
use Rattle.clap.specs.Lexer.{usize_max}
use Rattle.clap.specs.Faults.{is_simple_and_free}
use Rattle.clap.specs.Walk.{Rule, arg_by_id, arg_by_index}
use Rattle.clap.specs.Simple.{Shape, built, is_simple}
use Rattle.clap.specs.declared.builder.action.ArgAction.TheVariants.{Set}
use Rattle.clap.specs.declared.builder.value_parser.ValueParser.TheVariants as vp
use Rattle.form_words.specs.Line.{Text}
use Rattle.form_words.specs.Table.{Table}
use Rattle.form_words.specs.Commands.{table_app}

-- what is made of an argument that takes one value
abbrev pub taker : Text → Option Text → Option ℕ → Bool → Rule
taker id long index required = record {
  id = id;
  long = long;
  aliases = [];
  short = None;
  short_aliases = [];
  index = index;
  action = Some Set;
  range = Some (record { start_inclusive = 1; end_inclusive = 1 });
  value_names = 0;
  defaults = [];
  missing = [];
  trailing_var_arg = false;
  parser = Some vp.String;
  ignore_case = false;
  required = required;
  is_simple = true;
  is_free = true;
}

-- what is made of a command with these arguments
abbrev pub shape : Text → List Rule → Shape
shape name rules = record {
  name = name;
  aliases = [];
  rules = rules;
  is_plain = true;
  is_leaf = true;
  no_binary_name = true;
  disable_help_flag = true;
  disable_help_subcommand = true;
  disable_version_flag = false;
  propagate_version = false;
  has_version = false;
  has_long_version = false;
  args_override_self = false;
  arg_required_else_help = false;
  subcommand_required = false;
  subcommand_negates_reqs = false;
  is_built = true;
}

-- what is made of an option of a table
abbrev pub taken : Text × Bool → Rule
taken o = taker o.0 (Some o.0) None o.1

-- what is made of places from a number on
abbrev pub numbered : ℕ → List Text → List Rule
numbered i [] = []
numbered i (p ∷ ps) = taker p None (Some i) true ∷ numbered (i + 1) ps

-- what is made of the places and options of a table
abbrev pub rules_of : Table → List Rule
rules_of t = numbered 1 t.places ++ map taken t.options

-- the places from a number on are found by their numbers and names, and no more
abbrev pub HasPlaces : List Rule → ℕ → List Text → Type 0
HasPlaces R p [] = arg_by_index R p ≡ None
HasPlaces R p (id ∷ ids) = (arg_by_index R p ≡ Some (taker id None (Some p) true)) × (arg_by_id R id ≡ Some (taker id None (Some p) true))
    × HasPlaces R (min (p + 1) usize_max) ids

-- each option is found by its name
abbrev pub HaveIds : List Rule → List (Text × Bool) → Type 0
HaveIds R [] = Unit {0}
HaveIds R (o ∷ os) = (arg_by_id R o.0 ≡ Some (taken o)) × HaveIds R os

-- a table whose command is built as the table says, and finds each place and option by its name; of a table that is
-- written out each field is shown by computing
pub record IsServed (title : Text) (t : Table) : Type 0 where
  pub simple : is_simple (table_app title t) ≡ true
  pub free : is_simple_and_free (table_app title t) ≡ true
  pub built_is : built (table_app title t) ≡ record { top = shape title (rules_of t); subs = [] }
  pub places : HasPlaces (rules_of t) 1 t.places
  pub options : HaveIds (rules_of t) t.options
