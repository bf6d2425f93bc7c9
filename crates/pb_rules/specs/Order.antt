-- Assignments in the order of literals: the first place at which two differ decides.
use Rattle.std.specs.Prelude.{ℕ, Bool, Option, Some, true, false, ◌≡◌, ◌<◌, ◌⊎◌, List, length, slice_index_or}
use Rattle.pb_rules.specs.Literal.{Literal, lit_true}
use Rattle.pb_rules.specs.Linear.{Linear, IsModel}
use Rattle.pb_rules.specs.Partial.{IsClosedFor}

-- at the first literal of the order whose variable the two differ at, the first assignment has the literal
pub record IsBeforeAlong (order : List Literal) (v w : ℕ → Bool) : Type 0 where
  pub place : ℕ
  pub in_order : place < length order
  pub same_before : (j : ℕ) (d : Literal) → j < place → v (slice_index_or order j d).var ≡ w (slice_index_or order j d).var
  pub has : (d : Literal) → lit_true v (slice_index_or order place d) ≡ true
  pub has_not : (d : Literal) → lit_true w (slice_index_or order place d) ≡ false

-- the two agree at every variable of the order
abbrev pub AgreeOn : List Literal → (ℕ → Bool) → (ℕ → Bool) → Type 0
AgreeOn order v w = (j : ℕ) (d : Literal) → j < length order → v (slice_index_or order j d).var ≡ w (slice_index_or order j d).var

-- a model before every other model
pub record IsFirstModel (given : List Linear) (order : List Literal) (v : ℕ → Bool) : Type 0 where
  pub model : IsModel given v
  pub first : (w : ℕ → Bool) → IsModel given w → AgreeOn order v w ⊎ IsBeforeAlong order v w

-- constraints show an assignment to be the first: where it hasn't the order's literal, each closed partial assignment that agrees with it before takes its value too
abbrev pub ShowsFirst : List Linear → List Literal → (ℕ → Bool) → Type 0
ShowsFirst cs order v = (place : ℕ) (d : Literal) → place < length order → lit_true v (slice_index_or order place d) ≡ false → (p : ℕ → Option Bool) → IsClosedFor cs p
    → ((j : ℕ) (e : Literal) → j < place → p (slice_index_or order j e).var ≡ Some (v (slice_index_or order j e).var))
    → p (slice_index_or order place d).var ≡ Some (v (slice_index_or order place d).var)
