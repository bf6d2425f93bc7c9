-- The definitions, computed on a small file, against what was worked out by hand.
use Rattle.std.proofs.Common.{◌≡◌, ℕ, ◌*◌, ◌^◌, List, [], ◌∷◌, Some, None, true, false, pos, codes, refl}
use Rattle.spec_model.specs.Spec.{SpecValue, choice}
use Rattle.spec_graph.specs.Plan.{finished}
use Rattle.arch_reader.specs.declared.statement.KeyAmount.{KeyAmount}
use Rattle.arch_reader.specs.declared.statement.Statement.{Statement}
use Rattle.arch_reader.specs.declared.statement.Statement.TheVariants.{Objective, Resource, Link, Traffic, Task, Message, Merge, Map, Quantity, Hops, Delay, Deadline}
use Rattle.tgff_reader.specs.Facts.{TgffValue}
use Rattle.spec_join.specs.Reading.{after}

-- `KEY=N`, a whole number of units
abbrev word : List ℕ → ℕ → KeyAmount
word key amount = record { key = key; amount = pos (amount * 10 ^ 12) }

abbrev file : List Statement
file = Objective (codes "cost") (Some 1) false
    ∷ Objective (codes "power") None true
    ∷ Resource (codes "a") (word (codes "power") 3 ∷ word (codes "cost") 2 ∷ [])
    ∷ Resource (codes "b") []
    ∷ Link (codes "l") (codes "b") (codes "a") true (word (codes "cost") 1 ∷ [])
    ∷ Traffic (codes "l") (word (codes "power") 7 ∷ [])
    ∷ Traffic (codes "l") (word (codes "cost") 1 ∷ [])
    ∷ Task (codes "x")
    ∷ Task (codes "y")
    ∷ Task (codes "z")
    ∷ Hops None 4
    ∷ Message (codes "e") (codes "x") (codes "y" ∷ [])
    ∷ Message (codes "f") (codes "x") (codes "z" ∷ codes "y" ∷ [])
    ∷ Message (codes "g") (codes "y") (codes "z" ∷ [])
    ∷ Quantity (codes "f") (pos (5 * 10 ^ 12))
    ∷ Hops (Some (codes "f")) 1
    ∷ Delay (Some (codes "e")) (pos (6 * 10 ^ 12))
    ∷ Map (codes "y") (codes "b") (Some (pos (8 * 10 ^ 12))) (word (codes "cost") 1 ∷ [])
    ∷ Deadline (codes "z") (pos (9 * 10 ^ 12))
    ∷ Merge (codes "bus") (codes "e" ∷ codes "f" ∷ [])
    ∷ []

abbrev no_graphs : TgffValue
no_graphs = record { graphs = []; tables = [] }

abbrev plan : SpecValue
plan = record {
  tasks = codes "x" ∷ codes "y" ∷ codes "z" ∷ [];
  message_names = codes "g" ∷ codes "bus" ∷ [];
  messages = record { sender = 1; receivers = 2 ∷ []; limit = 4; delay = 0; quantity = 1 }
      ∷ record { sender = 0; receivers = 1 ∷ 2 ∷ []; limit = 1; delay = 6; quantity = 5 }
      ∷ [];
  resources = codes "a" ∷ codes "b" ∷ [];
  links = codes "l" ∷ [];
  arcs = record { link = 0; tail = 1; head = 0 } ∷ record { link = 0; tail = 0; head = 1 } ∷ [];
  options = choice 1 1 8 ∷ [];
  deadlines = record { task = 2; time = 9 } ∷ [];
  objectives = codes "cost" ∷ codes "power" ∷ [];
  option_weights = (10 ∷ 0 ∷ []) ∷ [];
  resource_weights = (20 ∷ 3 ∷ []) ∷ (0 ∷ 0 ∷ []) ∷ [];
  link_weights = (10 ∷ 0 ∷ []) ∷ [];
  traffic_weights = (10 ∷ 7 ∷ []) ∷ [];
  capacities = [];
  pairs = [];
}

states : (after no_graphs file 20).plan ≡ plan
states = refl

-- each hop limit is cut to one less than the number of resources
cut : (finished (after no_graphs file 20).plan).messages ≡ record { sender = 1; receivers = 2 ∷ []; limit = 1; delay = 0; quantity = 1 }
    ∷ record { sender = 0; receivers = 1 ∷ 2 ∷ []; limit = 1; delay = 6; quantity = 5 } ∷ []
cut = refl
