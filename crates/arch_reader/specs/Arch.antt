-- The architecture file: its rules, what its lines state, and what is kept of a file that was read.
use Rattle.std.specs.Prelude.{◌≡◌, ℕ, List, [], ◌∷◌, ◌++◌, map, Bool, false, Option, Some, None, codes}
use Rattle.std.specs.List.{flat_map, All}
use Rattle.std.specs.Option.{IfSome}
use Rattle.line_words.specs.Rules.{Test, Words, Rules, Statement as Line, without_header}
use Rattle.file_bricks.specs.Headed.{headed_rules}
use Rattle.file_bricks.specs.Words.{IsWord, is_headed}
use Rattle.arch_reader.specs.Shapes.{form_of}
use Rattle.arch_reader.specs.Seen.{seen}
use Rattle.arch_reader.specs.Formed.{IsFormed}
use Rattle.arch_reader.specs.Tests.{declared_name, names_in, has_arrow_name, has_reserved_name, is_late_clock, has_negative_weight, has_negative_time, has_negative_quantity, has_unknown_weight, has_unknown_key, has_unknown_place, has_unknown_resource, has_unknown_link, is_declared_again, is_second_clock, has_repeated_weight, has_repeated_key, has_repeated_place, is_self_link, has_fraction, has_big_scale, has_big_weight, has_big_time, has_big_quantity, has_long_name, is_past_resources, is_past_links, is_past_objectives, tests}
use Rattle.arch_reader.specs.declared.statement.Statement.{Statement}
use Rattle.arch_reader.specs.declared.statement.ArchLine.{ArchLine}
use Rattle.arch_reader.specs.declared.form.Form.{Form}

-- `arch 1`
abbrev pub is_header : Words → Bool
is_header ws = is_headed (codes "arch") (codes "1") ws

-- the statement of a form, at its line
abbrev pub line_with : ℕ → Option Form → List ArchLine
line_with number None = []
line_with number (Some f) = record { line = number; statement = f.statement } ∷ []

-- the statement of a line's words
abbrev pub line_of : Line → List ArchLine
line_of l = line_with l.number (form_of l.words)

-- the statements of lines, in their order
abbrev pub lines_of : List Line → List ArchLine
lines_of ls = flat_map line_of ls

abbrev pub statement_of : ArchLine → Statement
statement_of l = l.statement

-- statements without their lines
abbrev pub statements_in : List ArchLine → List Statement
statements_in ls = map statement_of ls

-- a statement is tried after the statements before it, whatever the header's words
abbrev pub later : Words → List Line → Words → List Test
later header before ws = tests (seen (statements_in (lines_of before))) (form_of ws)

-- the end is tried by nothing more
abbrev pub at_end : Words → List Line → List Test
at_end header before = []

-- the rules of the architecture file
abbrev pub arch_rules : Rules
arch_rules = headed_rules is_header later at_end

-- what a file's lines state after the header
abbrev pub arch_stated : List Line → List ArchLine
arch_stated ls = lines_of (without_header ls)

-- A statement breaks no rule after the statements before it: it is one that its form allows, its names are words of its
-- line, and each test by name. A statement that was read has numbers in their places, so no test of that stands here.
pub record Passes (before : List Statement) (s : Statement) : Type 0 where
  pub is_formed : IsFormed s
  pub name_is_word : IfSome (declared_name s) IsWord
  pub names_are_words : All IsWord (names_in s)
  pub name_is_no_arrow : has_arrow_name s ≡ false
  pub name_is_not_reserved : has_reserved_name s ≡ false
  pub clock_is_in_time : is_late_clock (seen before) s ≡ false
  pub no_negative_weight : has_negative_weight s ≡ false
  pub no_negative_time : has_negative_time s ≡ false
  pub no_negative_quantity : has_negative_quantity s ≡ false
  pub weights_are_known : has_unknown_weight (seen before) s ≡ false
  pub keys_are_known : has_unknown_key (seen before) s ≡ false
  pub places_are_known : has_unknown_place (seen before) s ≡ false
  pub resources_are_known : has_unknown_resource (seen before) s ≡ false
  pub link_is_known : has_unknown_link (seen before) s ≡ false
  pub name_is_new : is_declared_again (seen before) s ≡ false
  pub clock_is_first : is_second_clock (seen before) s ≡ false
  pub no_repeated_weight : has_repeated_weight s ≡ false
  pub no_repeated_key : has_repeated_key s ≡ false
  pub no_repeated_place : has_repeated_place s ≡ false
  pub no_self_link : is_self_link s ≡ false
  pub no_fraction : has_fraction (seen before) s ≡ false
  pub scale_is_small : has_big_scale s ≡ false
  pub weights_are_small : has_big_weight (seen before) s ≡ false
  pub time_is_small : has_big_time (seen before) s ≡ false
  pub quantity_is_small : has_big_quantity s ≡ false
  pub name_is_short : has_long_name s ≡ false
  pub resources_are_few : is_past_resources (seen before) s ≡ false
  pub links_are_few : is_past_links (seen before) s ≡ false
  pub objectives_are_few : is_past_objectives (seen before) s ≡ false

-- none of these statements does, after some statements before them
abbrev pub AllPass : List Statement → List ArchLine → Type 0
AllPass before [] = Unit {0}
AllPass before (l ∷ ls) = Passes before l.statement × AllPass (before ++ l.statement ∷ []) ls

-- a file that was read: its statements, and the number past its last line
pub record ArchValue : Type 0 where
  pub lines : List ArchLine
  pub end_line : ℕ

-- its statements
abbrev pub lines_in : ArchValue → List ArchLine
lines_in f = f.lines
