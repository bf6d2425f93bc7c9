-- What the statements before a line declare.
use Rattle.std.specs.Prelude.{ℕ, List, [], ◌∷◌, ◌++◌, Bool, true, false, ◌||◌, Option, Some, None}
use Rattle.std.specs.List.{flat_map, list_any}
use Rattle.std.specs.Option.{option_or}
use Rattle.arch_reader.specs.declared.statement.Statement.{Statement}
use Rattle.arch_reader.specs.declared.statement.Statement.TheVariants.{Objective, Clock, Resource, Link, Map, Table, Delay, Deadline}
use Rattle.arch_reader.specs.declared.seen.Objective.{Objective as Declared}
use Rattle.arch_reader.specs.declared.seen.Seen.{Seen}

-- a scale that isn't written is 0
abbrev pub scale_or_0 : Option ℕ → ℕ
scale_or_0 None = 0
scale_or_0 (Some n) = n

-- the objective that a statement declares
abbrev pub objectives_in : Statement → List Declared
objectives_in (Objective name scale floor) = record { name = name; scale = scale_or_0 scale; floor = floor } ∷ []
objectives_in s = []

-- the resource that a statement declares
abbrev pub resources_in : Statement → List (List ℕ)
resources_in (Resource name weights) = name ∷ []
resources_in s = []

-- the link that a statement declares
abbrev pub links_in : Statement → List (List ℕ)
links_in (Link name a b two_way weights) = name ∷ []
links_in s = []

-- the scale of all times, where a statement says it
abbrev pub clock_in : Statement → Option ℕ
clock_in (Clock scale floor) = Some (scale_or_0 scale)
clock_in s = None

-- a statement after which no clock may come
abbrev pub is_timed : Statement → Bool
is_timed (Map task resource time weights) = true
is_timed (Table name index resource keys weights_at) = true
is_timed (Delay message amount) = true
is_timed (Deadline task at) = true
is_timed s = false

-- the scale of all times that statements say first
abbrev pub clock_of : List Statement → Option ℕ
clock_of [] = None
clock_of (s ∷ ss) = option_or (clock_in s) (clock_of ss)

-- what statements declare, in their order
abbrev pub seen : List Statement → Seen
seen ss = record {
  objectives = flat_map objectives_in ss;
  resources = flat_map resources_in ss;
  links = flat_map links_in ss;
  clock = clock_of ss;
  is_timed = list_any is_timed ss;
}

-- what is declared once there is one more statement
abbrev pub after : Seen → Statement → Seen
after old s = record {
  objectives = old.objectives ++ objectives_in s;
  resources = old.resources ++ resources_in s;
  links = old.links ++ links_in s;
  clock = option_or old.clock (clock_in s);
  is_timed = old.is_timed || is_timed s;
}
