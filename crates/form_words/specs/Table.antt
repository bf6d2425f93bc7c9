-- The table of a command: its places and its options.
use Rattle.std.specs.Prelude.{◌∷◌, [], Bool, List, map, if◌then◌else◌}
use Rattle.std.specs.Borrow.{Bor}
use Rattle.form_words.specs.Line.{Form, Text}

-- the places in order, and each option with whether it has to be there
pub record Table : Type 0 where
  pub places : List Text
  pub options : List (Text × Bool)

-- the options that have to be there
abbrev pub needed : List (Text × Bool) → List Text
needed [] = []
needed (o ∷ os) = if o.1 then o.0 ∷ needed os else needed os

-- the form of the lines of a table
abbrev pub form_of : Table → Form
form_of t = record { places = t.places; options = map (λ o. o.0) t.options; required = needed t.options }

-- the table of places and options that are handed over
abbrev pub table_of : List (Bor Text) → List (Bor Text × Bool) → Table
table_of places options = record { places = map (λ s. s.now) places; options = map (λ o. (o.0.now, o.1)) options }
