-- A store's list of terms, and the part of it that each constraint has, by the number of its id.
use Rattle.std.specs.Prelude.{ℕ, Option, Some, None, ◌+◌, ◌≤◌, List, [], ◌∷◌, take, drop, length, All}
use Rattle.pb_rules.specs.declared.Term.{Term}
use Rattle.pb_rules.specs.Linear.{IsNormal}
use Rattle.pb_constraints.specs.declared.ConId.{ConId}
use Rattle.constraint_store.specs.declared.spans.Span.{Span}
use Rattle.constraint_store.specs.Live.{Live}

-- the terms of a part
abbrev pub part : List Term → Span → List Term
part ts s = take s.count (drop s.start ts)

-- what a part is under an id
abbrev pub live_in : List Term → ℕ → Span → Live
live_in ts k s = record { id = record { 0 = k }; constraint = record { terms = part ts s; degree = s.degree }; proof_id = s.proof_id }

-- what is live, where the first part is that of the id k
abbrev pub live_from : List Term → ℕ → List (Option Span) → List Live
live_from ts k [] = []
live_from ts k (None ∷ ss) = live_from ts (k + 1) ss
live_from ts k (Some s ∷ ss) = live_in ts k s ∷ live_from ts (k + 1) ss

-- no part begins before a place or before an earlier one's end, and none ends past another place
abbrev pub Follow : ℕ → ℕ → List (Option Span) → Type 0
Follow from to [] = from ≤ to
Follow from to (None ∷ ss) = Follow from to ss
Follow from to (Some s ∷ ss) = (from ≤ s.start) × Follow (s.start + s.count) to ss

-- each live constraint is in normal form
abbrev pub AreNormal : List Live → Type 0
AreNormal es = All (λ e. IsNormal e.constraint.terms e.constraint.degree) es

-- the parts of a store follow one another, and each is that of a constraint in normal form
pub record IsStore (ts : List Term) (ss : List (Option Span)) : Type 0 where
  pub follow : Follow 0 (length ts) ss
  pub normal : AreNormal (live_from ts 0 ss)

-- the same constraints under the ids from k on
abbrev pub renumbered : ℕ → List Live → List Live
renumbered k [] = []
renumbered k (e ∷ es) = record { id = record { 0 = k }; constraint = e.constraint; proof_id = e.proof_id } ∷ renumbered (k + 1) es

-- the ids from n on for what is live, in order
abbrev pub ranks : ℕ → List (Option Span) → List (Option ConId)
ranks n [] = []
ranks n (None ∷ ss) = None ∷ ranks n ss
ranks n (Some s ∷ ss) = Some (record { 0 = n }) ∷ ranks (n + 1) ss
