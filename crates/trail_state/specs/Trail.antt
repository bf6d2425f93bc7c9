-- The trail of a search: its entries in order, and what they say of a variable and of a level.
use Rattle.std.specs.Prelude.{ℕ, Bool, Option, Some, None, ◌≡◌, ◌==◌, ◌+◌, ◌<◌, List, [], ◌∷◌, map, take, length, count_by, is_none, slice_index_or, if◌then◌else◌, zero, suc}
use Rattle.pb_rules.specs.Literal.{Literal}
use Rattle.pb_constraints.specs.declared.ConId.{ConId}

-- a literal of the trail, with the constraint that forced it, if it was not decided
pub record Entry : Type 0 where
  pub lit : Literal
  pub reason : Option ConId

-- whether a literal was decided
abbrev pub is_decision : Entry → Bool
is_decision e = is_none e.reason

-- the level after these entries: how many decisions there are
abbrev pub level_of : List Entry → ℕ
level_of es = count_by is_decision es

-- the value that the entries give a variable
abbrev pub value_in : List Entry → ℕ → Option Bool
value_in [] x = None
value_in (e ∷ es) x = if e.lit.var == x then Some e.lit.yes else value_in es x

-- the constraint that forced a variable
abbrev pub reason_in : List Entry → ℕ → Option ConId
reason_in [] x = None
reason_in (e ∷ es) x = if e.lit.var == x then e.reason else reason_in es x

-- the level of a variable: how many decisions there are up to its place
abbrev pub level_in : List Entry → ℕ → ℕ
level_in [] x = 0
level_in (e ∷ es) x = (if is_decision e then 1 else 0) + (if e.lit.var == x then 0 else level_in es x)

-- no variable stands twice
abbrev pub IsDistinct : List Entry → Type 0
IsDistinct es = (k : ℕ) (d : Entry) → k < length es → value_in (take k es) (slice_index_or es k d).lit.var ≡ None

-- the entries up to the end of a level
abbrev pub upto_level : ℕ → List Entry → List Entry
upto_level n [] = []
upto_level zero (e ∷ es) = if is_decision e then [] else e ∷ upto_level zero es
upto_level (suc n) (e ∷ es) = if is_decision e then e ∷ upto_level n es else e ∷ upto_level (suc n) es

-- an entry with this reason, if it is that of the variable
abbrev pub reasoned : ℕ → ConId → Entry → Entry
reasoned x reason e = if e.lit.var == x then record { lit = e.lit; reason = Some reason } else e

-- the entries, that of one variable with another reason
abbrev pub with_reason : ℕ → ConId → List Entry → List Entry
with_reason x reason es = map (reasoned x reason) es

-- a trail: how many variables there are, and what is assigned, in order
pub record TrailView : Type 0 where
  pub variables : ℕ
  pub entries : List Entry
