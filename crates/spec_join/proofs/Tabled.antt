-- The definitions on two graphs and their tables, worked out by hand: the clock's scale, deadlines, delays, marks, rows,
-- and a quantity table after a merge.
use Rattle.std.proofs.Common.{◌≡◌, ℕ, ◌*◌, ◌-◌, ◌^◌, List, [], ◌∷◌, Some, None, true, false, pos, negsuc, codes, refl}
use Rattle.spec_model.specs.Spec.{SpecValue, choice}
use Rattle.arch_reader.specs.declared.statement.KeyColumn.{KeyColumn}
use Rattle.arch_reader.specs.declared.statement.Statement.{Statement}
use Rattle.arch_reader.specs.declared.statement.Statement.TheVariants.{Objective, Clock, Resource, Table, Merge, QuantityTable, Delay}
use Rattle.tgff_reader.specs.Facts.{TgffValue}
use Rattle.std.specs.Fmt.{digits}
use Rattle.std.specs.Float.Numeral.{scan_numeral}
use Rattle.line_words.specs.Numbers.{whole_of}
use Rattle.line_words.specs.Decimal.{decimal_of}
use Rattle.spec_join.specs.Reading.{after}

-- A deadline of 200, one below zero, one with a fraction that is cut off, and one that is too large. The first row of the
-- table PE is that of the resource; the row of type 5 has the mark 0.
abbrev graphs : TgffValue
graphs = record {
  graphs = record {
    index = 0;
    period = None;
    tasks = record { name = codes "a"; kind = 2 } ∷ record { name = codes "b"; kind = 5 } ∷ record { name = codes "e"; kind = 9 } ∷ [];
    arcs = record { name = codes "m"; from = 0; to = 1; kind = 1 } ∷ record { name = codes "o"; from = 0; to = 2; kind = 1 } ∷ [];
    deadlines = record { task = 1; at = pos (200 * 10 ^ 12); hard = true } ∷ record { task = 0; at = negsuc (5 * 10 ^ 11 - 1); hard = false } ∷ [];
  }
      ∷ record {
        index = 1;
        period = None;
        tasks = record { name = codes "c"; kind = 2 } ∷ record { name = codes "d"; kind = 9 } ∷ [];
        arcs = record { name = codes "n"; from = 0; to = 1; kind = 3 } ∷ [];
        deadlines = record { task = 0; at = pos (155 * 10 ^ 10); hard = true } ∷ record { task = 1; at = pos (10 ^ 30); hard = true } ∷ [];
      }
      ∷ [];
  tables = record {
    name = codes "PE";
    index = 0;
    rows = record { words = codes "33" ∷ codes "0" ∷ [] }
        ∷ record { words = codes "2" ∷ codes "48.5" ∷ codes "1.5" ∷ codes "1" ∷ [] }
        ∷ record { words = codes "5" ∷ codes "10" ∷ codes "2" ∷ codes "0" ∷ [] }
        ∷ [];
  }
      ∷ record { name = codes "Q"; index = 0; rows = record { words = codes "1" ∷ codes "7" ∷ [] } ∷ record { words = codes "3" ∷ codes "2.9" ∷ [] } ∷ [] }
      ∷ [];
}

-- `KEY=N` or `OBJ@N`
abbrev word : List ℕ → ℕ → KeyColumn
word key column = record { key = key; column = column }

abbrev file : List Statement
file = Objective (codes "energy") (Some 1) true
    ∷ Objective (codes "price") None false
    ∷ Clock (Some 1) false
    ∷ Resource (codes "p") []
    ∷ Resource (codes "q") []
    ∷ Table (codes "PE") 0 (codes "p") (word (codes "valid") 3 ∷ word (codes "time") 1 ∷ word (codes "energy") 2 ∷ []) (word (codes "price") 0 ∷ [])
    ∷ Table (codes "PE") 0 (codes "q") (word (codes "rows") 2 ∷ word (codes "time") 1 ∷ []) []
    ∷ Merge (codes "bus") (codes "0.m" ∷ codes "0.o" ∷ [])
    ∷ QuantityTable (codes "Q") 0 1 None
    ∷ Delay None (pos (25 * 10 ^ 10))
    ∷ Delay (Some (codes "bus")) (pos (3 * 10 ^ 12))
    ∷ []

-- Rows are looked for from the second one on where the line doesn't say from which. The tasks of type 9 have no row; the
-- one of type 5 has none on p, since its row's mark is 0, and one on q, where no marks are asked for. The merged message
-- has no type, so its quantity stays. A delay of a quarter comes to 2 at the clock's scale.
abbrev plan : SpecValue
plan = record {
  tasks = codes "0.a" ∷ codes "0.b" ∷ codes "0.e" ∷ codes "1.c" ∷ codes "1.d" ∷ [];
  message_names = codes "1.n" ∷ codes "bus" ∷ [];
  messages = record { sender = 3; receivers = 4 ∷ []; limit = 2 ^ 63 - 1; delay = 2; quantity = 2 }
      ∷ record { sender = 0; receivers = 1 ∷ 2 ∷ []; limit = 2 ^ 63 - 1; delay = 30; quantity = 1 }
      ∷ [];
  resources = codes "p" ∷ codes "q" ∷ [];
  links = [];
  arcs = [];
  options = choice 0 0 485 ∷ choice 3 0 485 ∷ choice 1 1 100 ∷ [];
  deadlines = record { task = 1; time = 2000 } ∷ record { task = 0; time = 0 } ∷ record { task = 3; time = 15 } ∷ record { task = 4; time = 2 ^ 40 } ∷ [];
  objectives = codes "energy" ∷ codes "price" ∷ [];
  option_weights = (15 ∷ 0 ∷ []) ∷ (15 ∷ 0 ∷ []) ∷ (0 ∷ 0 ∷ []) ∷ [];
  resource_weights = (0 ∷ 33 ∷ []) ∷ (0 ∷ 0 ∷ []) ∷ [];
  link_weights = [];
  traffic_weights = [];
  capacities = [];
  pairs = [];
}

states : (after graphs file 11).plan ≡ plan
unfolding digits scan_numeral whole_of decimal_of
states = refl
