-- What a learned clause is.
use Rattle.std.specs.Prelude.{ℕ, true, ◌≡◌, ◌<◌, ◌≤◌, ◌==◌, ◌≢◌, ◌⊎◌, length, All, count_by, List, map, slice_index_or}
use Rattle.pb_rules.specs.declared.Term.{Term}
use Rattle.pb_rules.specs.Linear.{Linear}
use Rattle.pb_rules.specs.Partial.{is_false}
use Rattle.pb_rules.specs.Clauses.{IsClause, contradiction}
use Rattle.pb_rules.specs.Honest.{IsPropagated}
use Rattle.constraint_store.specs.Live.{Live}
use Rattle.trail_state.specs.Trail.{Entry, value_in, level_of, level_in}

-- the live constraints, in order
abbrev pub constraints_in : List Live → List Linear
constraints_in live = map (λ e. e.constraint) live

-- a clause whose literals are all false, one of them of the current level above level 0; the live constraints propagate it
pub record IsLearned (live : List Live) (es : List Entry) (c : Linear) : Type 0 where
  pub clause : IsClause c
  pub false_all : All (λ t. is_false (value_in es) t.lit ≡ true) c.terms
  pub one_current : 0 < level_of es → count_by (λ t. level_in es t.lit.var == level_of es) c.terms ≡ 1
  pub at_level_zero : level_of es ≡ 0 → c ≡ contradiction
  pub propagated : IsPropagated (constraints_in live) c

-- the greatest level of the terms that is not the current one, or 0 where there are none
pub record IsLevelBelow (es : List Entry) (ts : List Term) (back : ℕ) : Type 0 where
  pub above : All (λ t. level_in es t.lit.var ≢ level_of es → level_in es t.lit.var ≤ back) ts
  pub attained : (back ≡ 0) ⊎ ((k : ℕ) × (k < length ts) × ((d : Term) → (level_in es (slice_index_or ts k d).lit.var ≡ back) × (level_in es (slice_index_or ts k d).lit.var ≢ level_of es)))
