use Rattle.std.proofs.Common.{◌≡◌, ◌≢◌, ℕ, ◌+◌, ◌<◌, Option, Some, None, List, [], ◌∷◌, get_or, refl, ap, ◌∙◌, arith, zero, suc, inl, inr}
use Rattle.std.proofs.lemmas.Bool.{cases_eq}
use Rattle.std.proofs.lemmas.Bool.Decides.{nat_tests}
use Rattle.pb_constraints.specs.declared.ConId.{ConId}
use Rattle.pb_rules.specs.Linear.{Linear}
use Rattle.propagate.specs.Attached.{Attached, attached_at}
use Rattle.propagate.specs.Counters.{attached_from}

-- ids are equal where their numbers are
pub same_id : (c d : ConId) → c.0 ≡ d.0 → c ≡ d
same_id c d e = ap (λ (n : ℕ). let x : ConId = record { 0 = n } in x) e

-- what a list of one has
pub attached_at-one : (a : Attached) (c : ConId) (k : Linear) → attached_at (a ∷ []) c ≡ Some k → (a.id ≡ c) × (a.constraint ≡ k)
attached_at-one a c k h =
    elim (cases_eq a.id.0 c.0) [
      | inl q ↦ (let v : attached_at (a ∷ []) c ≡ Some a.constraint = grind (arith, nat_tests) in (same_id a.id c q, cc))
      | inr n ↦ (let v : attached_at (a ∷ []) c ≡ None = grind (arith, nat_tests) in absurd (cc))
    ]

pub attached_at_own : (a : Attached) → attached_at (a ∷ []) a.id ≡ Some a.constraint
attached_at_own a = grind (arith, nat_tests)

abbrev pub empty : Option Linear
empty = None

-- nothing is attached below the first slot
pub attached_at_below : (k : ℕ) (ss : List (Option Linear)) (c : ConId) → c.0 < k → attached_at (attached_from k ss) c ≡ None
attached_at_below k [] c h = refl
attached_at_below k (None ∷ ss) c h = attached_at_below (k + 1) ss c (omega arith)
attached_at_below k (Some s ∷ ss) c h =
    let ih = attached_at_below (k + 1) ss c (omega arith) in
    let ne : k ≢ c.0 = omega arith in
    grind (arith, nat_tests)

-- what is attached under an id stands in its slot
pub attached_at_from : (k : ℕ) (ss : List (Option Linear)) (c : ConId) (i : ℕ) → c.0 ≡ k + i → attached_at (attached_from k ss) c ≡ get_or ss i empty
attached_at_from k [] c i e = refl
attached_at_from k (None ∷ ss) c zero e = attached_at_below (k + 1) ss c (omega arith)
attached_at_from k (None ∷ ss) c (suc i) e = attached_at_from (k + 1) ss c i (omega arith)
attached_at_from k (Some s ∷ ss) c zero e = let q : k ≡ c.0 = omega arith in grind (arith, nat_tests)
attached_at_from k (Some s ∷ ss) c (suc i) e =
    let ih = attached_at_from (k + 1) ss c i (omega arith) in
    let ne : k ≢ c.0 = omega arith in
    let a : attached_at (attached_from k (Some s ∷ ss)) c ≡ attached_at (attached_from (k + 1) ss) c = grind (arith, nat_tests) in
    a ∙ ih

pub attached_at_slot : (ss : List (Option Linear)) (c : ConId) → attached_at (attached_from 0 ss) c ≡ get_or ss c.0 empty
attached_at_slot ss c = attached_at_from 0 ss c c.0 (omega arith)
