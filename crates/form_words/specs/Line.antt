-- How a line of words is read by a form: which options there are, and what stands at which place.
use Rattle.std.specs.Prelude.{◌==◌, ◌&&◌, ◌++◌, ℕ, Bool, true, false, not, List, [], ◌∷◌}
use Rattle.std.specs.Prelude.{Option, Some, None, option_map, option_and_then, if◌then◌else◌, find}
use Rattle.std.specs.List.{list_all, list_any, before_first, after_first}
use Rattle.std.specs.Str.{bytes_eq}

-- the bytes of a word
abbrev pub Text : Type 0
Text = List ℕ

-- the names of the places in order, of the options, and of those that may not be missing
pub record Form : Type 0 where
  pub places : List Text
  pub options : List Text
  pub required : List Text

-- the looks of a word: `--`, `--name` or `--name=value`, another word of two bytes or more that
-- begins with `-`, or none of these
pub data Look : Type 0 where
  ends : Look
  option : Text → Option Text → Look
  dashed : Look
  plain : Look

-- `=`
abbrev pub is_equals : ℕ → Bool
is_equals b = b == 61

-- a word after its `--`
abbrev pub look_long : Text → Look
look_long [] = ends
look_long (x ∷ xs) = option (before_first is_equals (x ∷ xs))
    (if list_any is_equals (x ∷ xs) then Some (after_first is_equals (x ∷ xs)) else None)

-- a word after its first `-`
abbrev pub look_second : Text → Look
look_second [] = plain
look_second (b ∷ bs) = if b == 45 then look_long bs else dashed

-- what a word looks like
abbrev pub look : Text → Look
look [] = plain
look (b ∷ bs) = if b == 45 then look_second bs else plain

-- what the words before make of the next one
pub data Mode : Type 0 where
  free : Mode
  after : Text → Mode
  ended : Mode

-- a value, under the name of its place or option
abbrev pub Use : Type 0
Use = Text × Text

-- a use before others
abbrev pub onto : Use → Option (List Use) → Option (List Use)
onto u = option_map (λ us. u ∷ us)

-- how the words that follow are read, by the places that are left and the mode
abbrev pub Rest : Type 0
Rest = List Text → Mode → Option (List Use)

-- a word that goes to the next place
abbrev pub at_place : List Text → Text → Mode → Rest → Option (List Use)
at_place [] w mode rest = None
at_place (p ∷ ps) w mode rest = onto (p, w) (rest ps mode)

-- a word that gives an option, where there is one of that name
abbrev pub by_name : Bool → Text → Option Text → List Text → Rest → Option (List Use)
by_name false name v places rest = None
by_name true name None places rest = rest places (after name)
by_name true name (Some v) places rest = onto (name, v) (rest places free)

-- a name is among others
abbrev pub has_text : List Text → Text → Bool
has_text names name = list_any (λ n. bytes_eq n name) names

-- a word that waits for nothing
abbrev pub by_look : List Text → Look → Text → List Text → Rest → Option (List Use)
by_look options ends w places rest = rest places ended
by_look options (option name v) w places rest =
    by_name (has_text options name) name v places rest
by_look options dashed w places rest = None
by_look options plain w places rest = at_place places w free rest

-- a word that is an option's separate value
abbrev pub as_value : Look → Use → List Text → Rest → Option (List Use)
as_value plain u places rest = onto u (rest places free)
as_value _ u places rest = None

-- the next word, by its mode
abbrev pub by_mode : List Text → Mode → Text → List Text → Rest → Option (List Use)
by_mode options free w places rest = by_look options (look w) w places rest
by_mode options (after name) w places rest = as_value (look w) (name, w) places rest
by_mode options ended w places rest = at_place places w ended rest

-- the end, where no option may wait for its value
abbrev pub at_end : Mode → Option (List Use)
at_end (after name) = None
at_end _ = Some []

-- the values of the words, each under its name, in the order of the words
unfoldable pub uses : List Text → List Text → List Text → Mode → Option (List Use)
uses options [] places mode = at_end mode
uses options (w ∷ ws) places mode = by_mode options mode w places (uses options ws)

-- a name is among the uses
abbrev pub has_name : Text → List Use → Bool
has_name name us = list_any (λ u. bytes_eq u.0 name) us

-- no name stands twice, nor is among those before
unfoldable pub are_new : List Use → List Use → Bool
are_new before [] = true
are_new before (u ∷ us) = not (has_name u.0 before) && are_new (before ++ u ∷ []) us

-- each place and each required option has a value
abbrev pub are_there : Form → List Use → Bool
are_there f us =
    list_all (λ name. has_name name us) f.places && list_all (λ name. has_name name us) f.required

-- the uses, where a test holds
abbrev pub only_if : Bool → List Use → Option (List Use)
only_if b us = if b then Some us else None

-- the values of a line that fits the form
unfoldable pub line : Form → List Text → Option (List Use)
line f words = option_and_then (λ us. only_if (are_new [] us && are_there f us) us)
    (uses f.options words f.places free)

-- the value under a name
abbrev pub value_under : Text → List Use → Option Text
value_under name us = option_map (λ u. u.1) (find (λ u. bytes_eq u.0 name) us)
