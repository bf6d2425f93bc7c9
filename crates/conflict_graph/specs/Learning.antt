-- How far an analysis has come. The clause is the sign of each variable's literal.
use Rattle.std.specs.Prelude.{ℕ, Bool, Ok, Option, Some, None, true, not, ◌≡◌, ◌+◌, ◌<◌, ◌==◌, length, slice_index, slice_index_or, List, [], ◌∷◌, take, if◌then◌else◌, zero, suc}
use Rattle.pb_constraints.specs.declared.ConId.{ConId}
use Rattle.pb_rules.specs.Literal.{Literal}
use Rattle.pb_rules.specs.Partial.{IsClosed, flipped}
use Rattle.pb_rules.specs.declared.Op.{Op}
use Rattle.pb_rules.specs.Operations.{Context, KnowsLive, apply_all}
use Rattle.constraint_store.specs.Live.{Live, is_live, constraint_of}
use Rattle.trail_state.specs.Trail.{Entry, value_in, level_of, level_in}
use Rattle.conflict_graph.specs.Clauses.{clause_of}
use Rattle.conflict_graph.specs.Derives.{HasUnder}

-- the value that a list gives a variable
abbrev pub signs : List (Option Bool) → ℕ → Option Bool
signs items x = slice_index_or items x None

-- the values before a place of the trail, with one more literal made false where there is one
abbrev pub seen : List Entry → ℕ → Option Literal → ℕ → Option Bool
seen es place None = value_in (take place es)
seen es place (Some l) = flipped (value_in (take place es)) l

-- one sign, or else the other
abbrev pub either : Option Bool → Option Bool → Option Bool
either None o = o
either (Some b) o = Some b

-- each literal of the clause is false
abbrev pub Falsifies : (ℕ → Option Bool) → (ℕ → Option Bool) → Type 0
Falsifies a f = (x : ℕ) (b : Bool) → f x ≡ Some b → a x ≡ Some (not b)

-- no live constraint is in conflict or forces an unassigned literal
abbrev pub ClosedUnder : List Live → (ℕ → Option Bool) → Type 0
ClosedUnder live a = (c : ConId) → is_live live c ≡ true → IsClosed a (constraint_of live c)

-- 1 for a literal of the current level
abbrev pub current_at : List Entry → ℕ → Option Bool → ℕ
current_at es x None = 0
current_at es x (Some b) = if level_in es x == level_of es then 1 else 0

-- how many literals of a clause are of the current level
abbrev pub currents : ℕ → ℕ → List Entry → (ℕ → Option Bool) → ℕ
currents zero x es f = 0
currents (suc n) x es f = current_at es x (f x) + currents n (x + 1) es f

-- the levels of the assigned variables
pub record HasLevels (es : List Entry) (n : ℕ) (levels : List ℕ) : Type 0 where
  pub len : length levels ≡ n
  pub level : (x : ℕ) (b : Bool) → value_in es x ≡ Some b → slice_index levels x ≡ level_in es x

-- operations leave the clause alone on the stack, wherever the live constraints stand under their proof ids
abbrev pub LeaveClause : List Live → ℕ → (ℕ → Option Bool) → List Op → Type 0
LeaveClause live n f ops = (context : Context) → KnowsLive context → HasUnder context live → apply_all context ops [] ≡ Ok (clause_of n f ∷ [])

-- how far an analysis has come: the operations give the clause, whose literals are false before a place
pub record Learning (live : List Live) (es : List Entry) (n place : ℕ) (f : ℕ → Option Bool) (open_count : ℕ) (ops : List Op) : Type 0 where
  pub derives : LeaveClause live n f ops
  pub within : (x : ℕ) (b : Bool) → f x ≡ Some b → x < n
  pub false_before : Falsifies (value_in (take place es)) f
  pub propagated : (a : ℕ → Option Bool) → ClosedUnder live a → Falsifies a f → ⊥
  pub counted : open_count ≡ currents n 0 es f
  pub some : 0 < level_of es → 0 < open_count

-- what an analysis ends with
pub record Learnt (live : List Live) (es : List Entry) (n : ℕ) (f : ℕ → Option Bool) (ops : List Op) : Type 0 where
  pub derives : LeaveClause live n f ops
  pub within : (x : ℕ) (b : Bool) → f x ≡ Some b → x < n
  pub false_all : Falsifies (value_in es) f
  pub propagated : (a : ℕ → Option Bool) → ClosedUnder live a → Falsifies a f → ⊥
  pub one : 0 < level_of es → currents n 0 es f ≡ 1
  pub none : level_of es ≡ 0 → (x : ℕ) → f x ≡ None
