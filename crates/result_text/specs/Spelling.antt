-- How an implementation is written: a line for each true design variable, and the line of its vector.
use Rattle.std.specs.Prelude.{ℕ, List, [], ◌∷◌, ◌++◌, length, map, if◌then◌else◌, slice_index_or, codes, decimal}
use Rattle.std.specs.List.{flat_map}
use Rattle.line_words.specs.Rules.{Words}
use Rattle.spelled_lines.specs.Lines.{spelled}
use Rattle.spec_model.specs.Spec.{SpecValue, Bits, below, name_at, option_at, arc_at, design_variables}

-- an option is chosen
abbrev pub bind_words : SpecValue → ℕ → Words
bind_words s o = codes "bind" ∷ name_at s.tasks (option_at s o).task ∷ name_at s.resources (option_at s o).resource ∷ decimal o ∷ []

-- a message uses an arc
abbrev pub use_words : SpecValue → ℕ → ℕ → Words
use_words s m a =
    codes "use" ∷ name_at s.message_names m ∷ name_at s.links (arc_at s a).link ∷ name_at s.resources (arc_at s a).tail ∷ name_at s.resources (arc_at s a).head ∷ []

-- a resource is allocated
abbrev pub alloc_words : SpecValue → ℕ → Words
alloc_words s r = codes "alloc" ∷ name_at s.resources r ∷ []

-- a link is allocated
abbrev pub wire_words : SpecValue → ℕ → Words
wire_words s l = codes "wire" ∷ name_at s.links l ∷ []

-- the lines of a message's arcs
abbrev pub use_lines : SpecValue → ℕ → List Words
use_lines s m = map (use_words s m) (below (length s.arcs))

-- The words of the line of each design variable, in the order of their numbers: the options, the arcs message by
-- message, the resources and the links.
unfoldable pub item_lines : SpecValue → List Words
item_lines s =
    map (bind_words s) (below (length s.options))
    ++ flat_map (use_lines s) (below (length s.messages))
    ++ map (alloc_words s) (below (length s.resources))
    ++ map (wire_words s) (below (length s.links))

-- the words of the line of a design variable
abbrev pub item_words : SpecValue → ℕ → Words
item_words s v = slice_index_or (item_lines s) v []

-- the words of the line of a vector
abbrev pub vector_words : List ℕ → Words
vector_words numbers = codes "vector" ∷ map decimal numbers

-- what is written of a design variable: its line where it is true
abbrev pub item_text : SpecValue → Bits → ℕ → List ℕ
item_text s f v = if f v then spelled (item_words s v) else []

-- what is written of the design variables below a number, in their order
abbrev pub items_text : SpecValue → Bits → ℕ → List ℕ
items_text s f n = flat_map (item_text s f) (below n)

-- the text of a design and a vector
abbrev pub implementation_text : SpecValue → Bits → List ℕ → List ℕ
implementation_text s f numbers = items_text s f (design_variables s) ++ spelled (vector_words numbers)
