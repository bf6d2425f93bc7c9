-- An implementation text: its lines, what each is refused for, and the design and vector that they state.
use Rattle.std.specs.Prelude.{ℕ, ◌+◌, List, [], ◌∷◌, ◌++◌, Bool, true, false, ◌||◌, nat_lt, slice_set, replicate, if◌then◌else◌, Option, Some, None, is_some, is_none}
use Rattle.std.specs.List.{list_any}
use Rattle.line_words.specs.Rules.{Words, Rules, Statement, Test}
use Rattle.line_words.specs.declared.refusals.Why.TheVariants.{BadStatement, Unclosed, NotInOrder}
use Rattle.spelled_lines.specs.Lines.{is_empty}
use Rattle.spec_model.specs.Spec.{SpecValue, design_variables}
use Rattle.result_text.specs.Lines.{piece_tests, piece_stated}
use Rattle.result_text.specs.Stating.{item_tests, item_variable, vector_tests, is_vector, later_words, vector_numbers}

-- What some lines state: the design so far, the least variable whose line may follow, and the vector once its line was
-- read.
pub record Stated : Type 0 where
  pub design : List Bool
  pub least : ℕ
  pub vector : Option (List ℕ)

-- what no lines state
abbrev pub nothing : SpecValue → Stated
nothing s = record { design = replicate (design_variables s) false; least = 0; vector = None }

-- the same once a line more is read
abbrev pub with_line : SpecValue → Stated → Words → Stated
with_line s stated ws =
    if is_vector ws
    then record stated { vector = Some (vector_numbers ws) }
    else record stated { design = slice_set stated.design (item_variable s ws) true; least = item_variable s ws + 1 }

-- the same once some lines more are read
abbrev pub with_lines : SpecValue → Stated → List Statement → Stated
with_lines s stated [] = stated
with_lines s stated (line ∷ more) = with_lines s (with_line s stated line.words) more

-- A line breaks the form after the vector's line, or where a space stands at an end or beside another one. A vector's
-- line has its own rules. Another line names a design variable after that of the line before.
abbrev pub words_tests : SpecValue → Stated → Words → List Test
words_tests s stated ws =
    (BadStatement, is_some stated.vector || list_any is_empty ws)
    ∷ (if is_vector ws then vector_tests s (later_words ws) else (item_tests s ws ++ (NotInOrder, nat_lt (item_variable s ws) stated.least) ∷ []))

-- the same after some lines
abbrev pub later_tests : SpecValue → List Statement → Words → List Test
later_tests s before ws = words_tests s (with_lines s (nothing s) before) ws

-- the text ends with its vector's line
abbrev pub end_tests : SpecValue → List Statement → List Test
end_tests s before = (Unclosed, is_none (with_lines s (nothing s) before).vector) ∷ []

-- the rules of an implementation text
abbrev pub result_rules : SpecValue → Rules
result_rules s = record { line = piece_tests; stated = piece_stated; statement = later_tests s; end = end_tests s }
