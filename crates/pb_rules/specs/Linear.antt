-- Pseudo-Boolean constraints and their models.
use Rattle.std.specs.Prelude.{ℕ, Bool, ◌<◌, ◌≤◌, ◌^◌, List, All, Contains, sum_by, slice_index_or, length, if◌then◌else◌}
use Rattle.pb_rules.specs.declared.Term.{Term}
use Rattle.pb_rules.specs.Literal.{lit_true}
pub use Rattle.plain_lists.specs.Bits.{bits_of}

-- a constraint: the sum of the coefficients of its true literals is at least its degree
pub record Linear : Type 0 where
  pub terms : List Term
  pub degree : ℕ

-- the sum of the coefficients
abbrev pub total : List Term → ℕ
total ts = sum_by (λ t. t.coef) ts

-- the sum of the coefficients of the true literals
abbrev pub true_weight : (ℕ → Bool) → List Term → ℕ
true_weight v ts = sum_by (λ t. if lit_true v t.lit then t.coef else 0) ts

abbrev pub Holds : (ℕ → Bool) → Linear → Type 0
Holds v c = c.degree ≤ true_weight v c.terms

-- each constraint of a list holds
abbrev pub IsModel : List Linear → (ℕ → Bool) → Type 0
IsModel cs v = All (Holds v) cs

-- no assignment is a model
abbrev pub HasNoModel : List Linear → Type 0
HasNoModel cs = (v : ℕ → Bool) → IsModel cs v → ⊥

-- each constraint of one list stands in another
abbrev pub AreAmong : List Linear → List Linear → Type 0
AreAmong cs ds = (c : Linear) → Contains cs c → Contains ds c

-- each variable is below n
abbrev pub VarsBelow : ℕ → List Term → Type 0
VarsBelow n ts = All (λ t. t.lit.var < n) ts

-- normal form: positive coefficients, variables in rising order, sum and degree below 2^63
pub record IsNormal (ts : List Term) (degree : ℕ) : Type 0 where
  pub positive : All (λ t. 0 < t.coef) ts
  pub rising : (i j : ℕ) (d : Term) → i < j → j < length ts → (slice_index_or ts i d).lit.var < (slice_index_or ts j d).lit.var
  pub small : total ts < 2 ^ 63
  pub small_degree : degree < 2 ^ 63
