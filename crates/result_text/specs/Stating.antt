-- What the words of a line say of a specification, and what they are refused for.
use Rattle.std.specs.Prelude.{ℕ, List, [], ◌∷◌, length, map, Bool, true, false, ◌||◌, ◌&&◌, not, ◌==◌, nat_lt, nat_le, if◌then◌else◌, Result, Ok, Err, codes}
use Rattle.std.specs.List.{list_any, position_or_len}
use Rattle.std.specs.Str.{bytes_eq}
use Rattle.line_words.specs.Numbers.{plain_whole_of}
use Rattle.line_words.specs.Rules.{Words, Test}
use Rattle.line_words.specs.declared.numbers.NumberFault.{NumberFault}
use Rattle.line_words.specs.declared.numbers.NumberFault.TheVariants as numbers
use Rattle.line_words.specs.declared.refusals.Why.TheVariants.{BadStatement, BadNumber, UnknownName, TooBig, WrongBinding}
use Rattle.names.specs.Names.{number_by_name}
use Rattle.spec_model.specs.Spec.{SpecValue, Name, Arc, option_at, arc_var, resource_var, link_var}

-- a word is no number
abbrev pub is_no_number : Result ℕ NumberFault → Bool
is_no_number (Ok n) = false
is_no_number (Err numbers.BadNumber) = true
is_no_number (Err numbers.TooBig) = false

-- a word is a number that is too big for every place
abbrev pub is_too_big : Result ℕ NumberFault → Bool
is_too_big (Ok n) = false
is_too_big (Err numbers.BadNumber) = false
is_too_big (Err numbers.TooBig) = true

-- a number at or past the end of so many
abbrev pub is_past : ℕ → Result ℕ NumberFault → Bool
is_past count (Ok n) = nat_le count n
is_past count (Err e) = false

-- the number that a word gave
abbrev pub number_given : Result ℕ NumberFault → ℕ
number_given (Ok n) = n
number_given (Err e) = 0

-- a word is one of the names
abbrev pub is_name : List Name → List ℕ → Bool
is_name names word = nat_lt (number_by_name names word) (length names)

-- the option's task and resource are these
abbrev pub is_option_of : SpecValue → ℕ → ℕ → ℕ → Bool
is_option_of s t r o = ((option_at s o).task == t) && ((option_at s o).resource == r)

-- the arc is of this link, and goes from the one resource to the other
abbrev pub is_arc_of : ℕ → ℕ → ℕ → Arc → Bool
is_arc_of l p q arc = (arc.link == l) && (arc.tail == p) && (arc.head == q)

-- the number of the arc of a link from one resource to another, by their names; the number of arcs where there is none
abbrev pub arc_number : SpecValue → List ℕ → List ℕ → List ℕ → ℕ
arc_number s l p q = position_or_len (is_arc_of (number_by_name s.links l) (number_by_name s.resources p) (number_by_name s.resources q)) s.arcs

-- what `bind TASK RESOURCE OPTION` is tried by
abbrev pub bind_tests : SpecValue → List ℕ → List ℕ → List ℕ → List Test
bind_tests s t r n =
    (BadNumber, is_no_number (plain_whole_of n))
    ∷ (UnknownName, not (is_name s.tasks t) || not (is_name s.resources r) || is_past (length s.options) (plain_whole_of n))
    ∷ (TooBig, is_too_big (plain_whole_of n))
    ∷ (WrongBinding, not (is_option_of s (number_by_name s.tasks t) (number_by_name s.resources r) (number_given (plain_whole_of n))))
    ∷ []

-- what `use MESSAGE LINK TAIL HEAD` is tried by
abbrev pub use_tests : SpecValue → List ℕ → List ℕ → List ℕ → List ℕ → List Test
use_tests s m l p q =
    (UnknownName, not (is_name s.message_names m) || not (is_name s.links l) || not (is_name s.resources p) || not (is_name s.resources q))
    ∷ (WrongBinding, nat_le (length s.arcs) (arc_number s l p q))
    ∷ []

-- what `alloc RESOURCE` and `wire LINK` are tried by
abbrev pub name_tests : List Name → List ℕ → List Test
name_tests names word = (UnknownName, not (is_name names word)) ∷ []

-- a line that has none of the forms
abbrev pub misshapen : List Test
misshapen = (BadStatement, true) ∷ []

-- what a line of a design variable is tried by alone
abbrev pub item_tests : SpecValue → Words → List Test
item_tests s [] = misshapen
item_tests s (k ∷ []) = misshapen
item_tests s (k ∷ a ∷ []) =
    if bytes_eq k (codes "alloc") then name_tests s.resources a else if bytes_eq k (codes "wire") then name_tests s.links a else misshapen
item_tests s (k ∷ a ∷ b ∷ []) = misshapen
item_tests s (k ∷ a ∷ b ∷ c ∷ []) = if bytes_eq k (codes "bind") then bind_tests s a b c else misshapen
item_tests s (k ∷ a ∷ b ∷ c ∷ d ∷ []) = if bytes_eq k (codes "use") then use_tests s a b c d else misshapen
item_tests s (k ∷ a ∷ b ∷ c ∷ d ∷ e ∷ more) = misshapen

-- the design variable that a line names, where those tests pass
abbrev pub item_variable : SpecValue → Words → ℕ
item_variable s [] = 0
item_variable s (k ∷ []) = 0
item_variable s (k ∷ a ∷ []) =
    if bytes_eq k (codes "alloc") then resource_var s (number_by_name s.resources a) else link_var s (number_by_name s.links a)
item_variable s (k ∷ a ∷ b ∷ []) = 0
item_variable s (k ∷ a ∷ b ∷ c ∷ []) = number_given (plain_whole_of c)
item_variable s (k ∷ a ∷ b ∷ c ∷ d ∷ []) = arc_var s (number_by_name s.message_names a) (arc_number s b c d)
item_variable s (k ∷ a ∷ b ∷ c ∷ d ∷ e ∷ more) = 0

-- words that are no number, or too big a one
abbrev pub no_number : List ℕ → Bool
no_number word = is_no_number (plain_whole_of word)

abbrev pub too_big : List ℕ → Bool
too_big word = is_too_big (plain_whole_of word)

-- the number that a word writes
abbrev pub number_in : List ℕ → ℕ
number_in word = number_given (plain_whole_of word)

-- what the words after `vector` are tried by
abbrev pub vector_tests : SpecValue → Words → List Test
vector_tests s ws = (BadStatement, not (length ws == length s.objectives)) ∷ (BadNumber, list_any no_number ws) ∷ (TooBig, list_any too_big ws) ∷ []

-- the first word is this one
abbrev pub starts_with : List ℕ → Words → Bool
starts_with keyword [] = false
starts_with keyword (w ∷ ws) = bytes_eq w keyword

-- the line of a vector, which ends the text
abbrev pub is_vector : Words → Bool
is_vector ws = starts_with (codes "vector") ws

-- the words after the first
abbrev pub later_words : Words → Words
later_words [] = []
later_words (k ∷ ws) = ws

-- the numbers of a vector's line
abbrev pub vector_numbers : Words → List ℕ
vector_numbers ws = map number_in (later_words ws)
