use Rattle.std.proofs.Common.{◌≡◌, ◌≢◌, ℕ, ◌+◌, ◌<◌, ◌≤◌, ◌-◌, Bool, true, false, Option, Some, None, List, [], ◌∷◌, ◌++◌, length, get_or, take, refl, sym, ap, ◌∙◌, subst, arith, inl, inr}
use Rattle.std.specs.Prelude.{All, Contains}
use Rattle.std.proofs.lemmas.List.Elements.{All-more}
use Rattle.std.proofs.lemmas.List.{take_all, length_push, length-take-le, get_or-take, get_or_default}
use Rattle.std.proofs.lemmas.List.Sorted.{IsPermutation-sym, All-permutation, Contains-permutation}
use Rattle.std.proofs.lemmas.Bool.{cases_lt}
use Rattle.pb_rules.specs.declared.Term.{Term}
use Rattle.pb_rules.specs.Linear.{IsNormal}
use Rattle.pb_rules.specs.Partial.{open_weight, Forces}
use Rattle.pb_rules.proofs.Rooms.{open_weight_made_true, only_term}
use Rattle.trail_state.specs.Trail.{Entry, value_in}
use Rattle.trail_state.proofs.Entries.{push_same, push_other, GoesOn-append}
use Rattle.propagate.specs.Attached.{Attached}
use Rattle.propagate.specs.Forced.{IsForcedAt, Appends}
use Rattle.propagate.specs.Counters.{IsQuiet}
use Rattle.propagate.specs.Ranked.{IsRanking}
use Rattle.propagate.proofs.Attaching.{attached_at_own}
use Rattle.propagate.proofs.Appending.{Appends-none, Appends-push}

-- a variable that has no value after one more entry has none before
pub none-push : (es : List Entry) (e : Entry) (x : ℕ) → value_in (es ++ e ∷ []) x ≡ None → value_in es x ≡ None
none-push es e x h = go (value_in es x) refl
  where
    go : (o : Option Bool) → value_in es x ≡ o → value_in es x ≡ None
    go None q = q
    go (Some b) q = (let s = GoesOn-append es (e ∷ []) x b q in absurd (cc))

-- how far the pass over the terms of a constraint, by falling coefficient, has come
pub record Progress (a : Attached) (ts : List Term) (start now : List Entry) (i room : ℕ) : Type 0 where
  pub appends : Appends (a ∷ []) start now
  pub room_is : open_weight (value_in now) a.constraint.terms ≡ room
  pub quiet : All (λ (t : Term). value_in now t.lit.var ≡ None → a.constraint.degree + t.coef ≤ room) (take i ts)

pub Progress-none : (a : Attached) (ts : List Term) (start : List Entry) (room : ℕ) → room ≡ open_weight (value_in start) a.constraint.terms → Progress a ts start start 0 room
Progress-none a ts start room e = record { appends = Appends-none (a ∷ []) start; room_is = sym e; quiet = λ k d h. absurd (omega arith) }

pub Progress-push : (a : Attached) (ts : List Term) (start now : List Entry) (i room : ℕ) → Progress a ts start now i room → (t : Term) → IsNormal a.constraint.terms a.constraint.degree
    → IsRanking a.constraint.terms ts → i < length ts → t ≡ get_or ts i t → value_in now t.lit.var ≡ None → room < a.constraint.degree + t.coef
    → Progress a ts start (now ++ record { lit = t.lit; reason = Some a.id } ∷ []) (i + 1) room
Progress-push a ts start now i room p t normal ranking h at free beyond =
    let there : Contains a.constraint.terms t = Contains-permutation ts a.constraint.terms t (IsPermutation-sym a.constraint.terms ts ranking.moved) (i, h, sym at) in
    let e : Entry = record { lit = t.lit; reason = Some a.id } in
    let len = length_push now e in
    let all : take (length now) now ≡ now = take_all (length now) now (omega arith) in
    let room_is = p.room_is in
    let P : List Entry → Type 0 = λ es. Forces (value_in es) a.constraint t.lit in
    let f : Forces (value_in now) a.constraint t.lit = record { unassigned = free; coef = t.coef; there = there; beyond = omega arith } in
    let forced : IsForcedAt (a ∷ []) now (length now) e = record { reason = a.id; there = refl; constraint = a.constraint; attached = attached_at_own a; forces = subst P (sym all) f } in
    let made = push_same now e t.lit.var free refl in
    let others : (x : ℕ) → t.lit.var ≢ x → value_in (now ++ e ∷ []) x ≡ value_in now x = λ x n. push_other now e x n in
    let Q : Term → Type 0 = λ u. value_in (now ++ e ∷ []) u.lit.var ≡ None → a.constraint.degree + u.coef ≤ room in
    let before : All Q (take i ts) = λ k d l free'. p.quiet k d l (none-push now e (get_or (take i ts) k d).lit.var free') in
    let own : Q t = λ z. absurd (cc) in
    record {
      appends = Appends-push (a ∷ []) start now e p.appends forced;
      room_is =
          open_weight_made_true (value_in now) (value_in (now ++ e ∷ [])) t.lit a.constraint.terms free made others
          (only_term a.constraint.terms a.constraint.degree normal there.0 t there.1 (sym there.2)) ∙ room_is;
      quiet = All-more Q ts i t h before (subst Q at own);
    }

pub Progress-quiet : (a : Attached) (ts : List Term) (start now : List Entry) (i room : ℕ) → Progress a ts start now i room → (t : Term) → i < length ts → t ≡ get_or ts i t
    → (value_in now t.lit.var ≡ None → a.constraint.degree + t.coef ≤ room) → Progress a ts start now (i + 1) room
Progress-quiet a ts start now i room p t h at within =
    let P : Term → Type 0 = λ t. value_in now t.lit.var ≡ None → a.constraint.degree + t.coef ≤ room in
    record {
      appends = p.appends;
      room_is = p.room_is;
      quiet = All-more P ts i t h p.quiet (subst P at within);
    }

-- what holds of all terms by falling coefficient holds of the constraint
quiet_ranked : (a : Attached) (ts : List Term) (now : List Entry) (room : ℕ) → IsRanking a.constraint.terms ts → a.constraint.degree ≤ room
    → All (λ (t : Term). value_in now t.lit.var ≡ None → a.constraint.degree + t.coef ≤ room) ts → IsQuiet room (value_in now) a.constraint
quiet_ranked a ts now room ranking d all =
    let P : Term → Type 0 = λ t. value_in now t.lit.var ≡ None → a.constraint.degree + t.coef ≤ room in
    record { no_conflict = d; none_forced = All-permutation P ts a.constraint.terms (IsPermutation-sym a.constraint.terms ts ranking.moved) all }

pub Progress-all : (a : Attached) (ts : List Term) (start now : List Entry) (i room : ℕ) → Progress a ts start now i room → IsRanking a.constraint.terms ts → length ts ≤ i
    → a.constraint.degree ≤ room → IsQuiet room (value_in now) a.constraint
Progress-all a ts start now i room p ranking h d =
    let P : List Term → Type 0 = λ us. All (λ (t : Term). value_in now t.lit.var ≡ None → a.constraint.degree + t.coef ≤ room) us in
    quiet_ranked a ts now room ranking d (subst P (take_all i ts h) p.quiet)

-- where a coefficient is no greater than the slack, so is each later one
pub Progress-stop : (a : Attached) (ts : List Term) (start now : List Entry) (i room slack : ℕ) (t : Term) → Progress a ts start now i room → IsRanking a.constraint.terms ts → i < length ts
    → t ≡ get_or ts i t → a.constraint.degree ≤ room → slack ≡ room - a.constraint.degree → t.coef ≤ slack → IsQuiet room (value_in now) a.constraint
Progress-stop a ts start now i room slack t p ranking h at d s le =
    quiet_ranked a ts now room ranking d (λ k e lt free. elim (cases_lt k i) [
      | inl b ↦ (
          let len : length (take i ts) ≡ i = length-take-le i ts (omega arith) in
          let q = p.quiet k e (omega (arith, len)) in
          let g = get_or-take i ts k e b in
          let V : Term → Type 0 = λ u. value_in now u.lit.var ≡ None in
          let r = q (subst V (sym g) free) in
          let g' = ap (λ (u : Term). u.coef) g in
          omega (arith, r, g'))
      | inr b ↦ (
          let f = ranking.falling i k e b lt in
          let g = ap (λ (u : Term). u.coef) (get_or_default ts i e t h ∙ sym at) in
          omega (arith, f, g))
    ])

pub Progress-step : (a : Attached) (ts : List Term) (start now next : List Entry) (i room slack : ℕ) (t : Term) (pushed : Bool) → Progress a ts start now i room
    → IsNormal a.constraint.terms a.constraint.degree → IsRanking a.constraint.terms ts → i < length ts → t ≡ get_or ts i t → a.constraint.degree ≤ room → slack ≡ room - a.constraint.degree
    → (pushed ≡ true → next ≡ now ++ record { lit = t.lit; reason = Some a.id } ∷ []) → (pushed ≡ true → value_in now t.lit.var ≡ None) → (pushed ≡ true → slack < t.coef)
    → (pushed ≡ false → next ≡ now) → (pushed ≡ false → value_in now t.lit.var ≡ None → t.coef ≤ slack) → Progress a ts start next (i + 1) room
Progress-step a ts start now next i room slack t true p normal ranking h is le s grown free beyond stays within =
    let P : List Entry → Type 0 = λ es. Progress a ts start es (i + 1) room in
    let b = beyond refl in
    subst P (sym (grown refl)) (Progress-push a ts start now i room p t normal ranking h is (free refl) (omega arith))
Progress-step a ts start now next i room slack t false p normal ranking h is le s grown free beyond stays within =
    let P : List Entry → Type 0 = λ es. Progress a ts start es (i + 1) room in
    subst P (sym (stays refl)) (Progress-quiet a ts start now i room p t h is (λ f. (let w = within refl f in omega arith)))
