-- What a search for a table or a row has passed, and what it finds.
use Rattle.std.proofs.Common.{◌≡◌, ℕ, inl, inr, List, [], Option, Some, None, map, get_or, sym, ap, ◌∙◌, arith}
use Rattle.std.specs.Prelude.{IfSome, MatchOption}
use Rattle.std.proofs.lemmas.Bool.{cases_lt}
use Rattle.std.proofs.lemmas.List.{get_or-map, length-map}
use Rattle.spec_model.specs.WellFormed.{AreDistinct}
use Rattle.tgff_reader.specs.Facts.{table_key}
use Rattle.tgff_reader.specs.Looking.{table_at, IsTableAt, HasNoTable}
use Rattle.tgff_reader.specs.declared.file.Table.{Table}

-- ---- tables

key_at : (tables : List Table) (name : List ℕ) (index i : ℕ) → IsTableAt tables name index i → get_or (map table_key tables) i (name, index) ≡ (name, index)
key_at tables name index i t =
    let x = table_at tables i in
    get_or-map table_key tables i (record { name = []; index = 0; rows = [] }) (name, index) t.there
    ∙ ap (λ (n : List ℕ). (n, x.index)) t.name_is ∙ ap (λ (k : ℕ). (name, k)) t.index_is

-- no two tables have one name and one index
pub one_table : (tables : List Table) (name : List ℕ) (index i j : ℕ) → AreDistinct (map table_key tables) → IsTableAt tables name index i → IsTableAt tables name index j → j ≡ i
one_table tables name index i j d s t = elim (cases_lt i j) [
  | inl lt ↦ absurd (d i j (name, index) lt (omega (arith, t.there, length-map tables table_key)) (key_at tables name index i s ∙ sym (key_at tables name index j t)))
  | inr ge ↦ elim (cases_lt j i) [
    | inl lt ↦ absurd (d j i (name, index) lt (omega (arith, s.there, length-map tables table_key)) (key_at tables name index j t ∙ sym (key_at tables name index i s)))
    | inr le ↦ omega (arith, ge, le)
  ]
]

-- a place that was found is the only one
pub only_table : (tables : List Table) (name : List ℕ) (index : ℕ) (found : Option ℕ) → AreDistinct (map table_key tables)
    → MatchOption found (HasNoTable tables name index) (IsTableAt tables name index)
    → IfSome found (λ place. (other : ℕ) → IsTableAt tables name index other → other ≡ place)
only_table tables name index None d t = tt
only_table tables name index (Some place) d t = λ other u. one_table tables name index place other d t u
