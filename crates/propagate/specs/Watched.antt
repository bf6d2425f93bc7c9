-- A clause with the two of its literals that are watched.
use Rattle.std.specs.Prelude.{ℕ, Bool, true, Option, Some, None, ◌≡◌, ◌≢◌, ◌⊎◌, List, All, Contains, map, slice_index_or}
use Rattle.pb_rules.specs.declared.Term.{Term}
use Rattle.pb_rules.specs.Literal.{Literal}
use Rattle.pb_rules.specs.Linear.{Linear, VarsBelow}
use Rattle.pb_rules.specs.Partial.{is_false}

-- a clause, and which two of its literals are watched
pub record WatchedView : Type 0 where
  pub whole : Linear
  pub first : Literal
  pub second : Literal

-- a literal stands in terms
pub record HasLiteral (ts : List Term) (l : Literal) : Type 0 where
  pub term : Term
  pub there : Contains ts term
  pub is : term.lit ≡ l

-- a literal of terms is true
pub record HasTrue (q : ℕ → Option Bool) (ts : List Term) : Type 0 where
  pub lit : Literal
  pub there : HasLiteral ts lit
  pub holds : q lit.var ≡ Some lit.yes

-- a literal is one of the two that are watched
abbrev pub Watches : WatchedView → Literal → Type 0
Watches w l = (w.first ≡ l) ⊎ (w.second ≡ l)

-- these are the two that are watched
abbrev pub IsPair : WatchedView → Literal → Literal → Type 0
IsPair w l m = ((w.first ≡ l) × (w.second ≡ m)) ⊎ ((w.second ≡ l) × (w.first ≡ m))

-- each coefficient is the degree, so that one true literal is enough
abbrev pub IsClause : Linear → Type 0
IsClause c = All (λ t. t.coef ≡ c.degree) c.terms

-- it is a clause, and two different literals of it are watched
pub record IsWatched (w : WatchedView) : Type 0 where
  pub clause : IsClause w.whole
  pub first_there : HasLiteral w.whole.terms w.first
  pub second_there : HasLiteral w.whole.terms w.second
  pub apart : w.first ≢ w.second

-- all literals but this one are false
abbrev pub AreFalseBut : (ℕ → Option Bool) → Literal → List Term → Type 0
AreFalseBut q l ts = All (λ t. t.lit ≢ l → is_false q t.lit ≡ true) ts

-- where a watched literal is false under the one assignment, a literal of the clause is true under the other
abbrev pub IsGuarded : (ℕ → Option Bool) → (ℕ → Option Bool) → WatchedView → Type 0
IsGuarded q p w = (l : Literal) → Watches w l → is_false q l ≡ true → HasTrue p w.whole.terms

-- the clause of a slot
abbrev pub whole_in : Option WatchedView → Option Linear
whole_in None = None
whole_in (Some w) = Some w.whole

-- the clauses of slots
abbrev pub wholes : List (Option WatchedView) → List (Option Linear)
wholes slots = map whole_in slots

-- what stands in a slot is watched, and its variables are below n
pub record IsKept (n : ℕ) (w : WatchedView) : Type 0 where
  pub watched : IsWatched w
  pub in_range : VarsBelow n w.whole.terms

abbrev pub AreKept : ℕ → List (Option WatchedView) → Type 0
AreKept n slots = (i : ℕ) (w : WatchedView) → slice_index_or slots i None ≡ Some w → IsKept n w

abbrev pub AreGuarded : (ℕ → Option Bool) → (ℕ → Option Bool) → List (Option WatchedView) → Type 0
AreGuarded q p slots = (i : ℕ) (w : WatchedView) → slice_index_or slots i None ≡ Some w → IsGuarded q p w
