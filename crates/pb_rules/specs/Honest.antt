-- Learned clauses that say something new, and logs of them.
use Rattle.std.specs.Prelude.{ℕ, Bool, Option, None, true, ◌≡◌, ◌≢◌, ◌<◌, List, ◌++◌, take, length, slice_index_or, All, Contains}
use Rattle.pb_rules.specs.declared.Term.{Term}
use Rattle.pb_rules.specs.Linear.{Linear}
use Rattle.pb_rules.specs.Partial.{is_false, IsClosedFor}
use Rattle.pb_rules.specs.Clauses.{IsClause}

-- all literals of a clause are false but one, which is unassigned
pub record LeavesOne (p : ℕ → Option Bool) (c : Linear) : Type 0 where
  pub left : Term
  pub there : Contains c.terms left
  pub unassigned : p left.lit.var ≡ None
  pub others_false : (t : Term) → Contains c.terms t → t.lit.var ≢ left.lit.var → is_false p t.lit ≡ true

-- a list absorbs a clause: no closed partial assignment leaves one literal of it
abbrev pub IsAbsorbed : List Linear → Linear → Type 0
IsAbsorbed cs c = (p : ℕ → Option Bool) → IsClosedFor cs p → LeavesOne p c → ⊥

-- the contrary, by a closed partial assignment that leaves one literal
pub record IsUnabsorbed (cs : List Linear) (c : Linear) : Type 0 where
  pub assignment : ℕ → Option Bool
  pub closed : IsClosedFor cs assignment
  pub leaves_one : LeavesOne assignment c

-- a list propagates a clause: no closed partial assignment falsifies it
abbrev pub IsPropagated : List Linear → Linear → Type 0
IsPropagated cs c = (p : ℕ → Option Bool) → IsClosedFor cs p → All (λ t. is_false p t.lit ≡ true) c.terms → ⊥

-- clauses one after another, none of which the base and the clauses before it absorb
pub record AreHonest (base clauses : List Linear) : Type 0 where
  pub clauses_each : All IsClause clauses
  pub unabsorbed : (k : ℕ) (d : Linear) → k < length clauses → IsUnabsorbed (base ++ take k clauses) (slice_index_or clauses k d)
