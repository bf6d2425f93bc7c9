-- A walk that is followed from its end.
use Rattle.std.proofs.Common.{◌≡◌, ℕ, zero, suc, ◌+◌, ◌-◌, ◌<◌, ◌≤◌, Bool, true, false, refl, sym, ap, ◌∙◌, subst, arith, ◌⊎◌, inl, inr}
use Rattle.std.proofs.lemmas.Bool.{cases_lt}
use Rattle.spec_model.specs.Spec.{SpecValue, Bits, arc_at, arc_var}
use Rattle.spec_model.specs.Rules.{IsOn, Uses, Walk, WalkBelow, uses_into, sender_of}
use Rattle.spec_model.proofs.Once.{Uses-same}

-- after i steps back from `to` the walk stands at `now`
pub record IsBack (s : SpecValue) (f : Bits) (m to now i : ℕ) : Type 0 where
  pub none_shorter : (n : ℕ) → n < i → ¬ Walk s f m to n
  pub rest_of : (n : ℕ) → Walk s f m to (n + i) → Walk s f m now n
  pub whole_of : (n : ℕ) → Walk s f m now n → Walk s f m to (n + i)

along : (s : SpecValue) (f : Bits) (m r i j : ℕ) → i ≡ j → Walk s f m r i → Walk s f m r j
along s f m r i j e w = subst (λ (n : ℕ). Walk s f m r n) e w

-- a walk is followed back from its end,
pub IsBack-start : (s : SpecValue) (f : Bits) (m to : ℕ) → IsBack s f m to to 0
IsBack-start s f m to = record {
  none_shorter = λ n l w. absurd (omega arith);
  rest_of = λ n w. along s f m to (n + 0) n (omega arith) w;
  whole_of = λ n w. along s f m to n (n + 0) (omega arith) w;
}

-- and is one where the sender stands there
pub IsBack-found : (s : SpecValue) (f : Bits) (m to now i n : ℕ) → IsBack s f m to now i → i < n → IsOn s f (sender_of s m) now → WalkBelow s f m to n
IsBack-found s f m to now i n back l on = (i, l, along s f m to (0 + i) i (omega arith) (back.whole_of 0 on))

-- no walk where the sender is elsewhere and no used arc comes in
pub IsBack-none : (s : SpecValue) (f : Bits) (m to now i n : ℕ) → IsBack s f m to now i → ¬ IsOn s f (sender_of s m) now → ((a : ℕ) → Uses s f m a → ¬ ((arc_at s a).head ≡ now))
    → ¬ WalkBelow s f m to n
IsBack-none s f m to now i n back off none w =
    let split = cases_lt w.0 i in
    elim split [
      | inl l ↦ back.none_shorter w.0 l w.2
      | inr l ↦ stuck (w.0 - i) (back.rest_of (w.0 - i) (along s f m to w.0 ((w.0 - i) + i) (omega arith) w.2))
    ]
  where
    stuck : (k : ℕ) → Walk s f m now k → ⊥
    stuck zero x = off x
    stuck (suc k) x = none x.0 x.1 x.2

-- one step back, along the one used arc that comes in
pub IsBack-step : (s : SpecValue) (f : Bits) (m to now i a : ℕ) → IsBack s f m to now i → ¬ IsOn s f (sender_of s m) now → uses_into s f m now ≤ 1 → Uses s f m a → (arc_at s a).head ≡ now
    → IsBack s f m to (arc_at s a).tail (i + 1)
IsBack-step s f m to now i a back off one used into = record {
  none_shorter = λ n l w.
      elim (cases_lt n i) [
        | inl l' ↦ back.none_shorter n l' w
        | inr l' ↦ off (back.rest_of 0 (along s f m to n (0 + i) (omega arith) w))
      ];
  rest_of = λ n w.
      let x = back.rest_of (suc n) (along s f m to (n + (i + 1)) (suc n + i) (omega arith) w) in
      subst (λ (b : ℕ). Walk s f m (arc_at s b).tail n) (Uses-same s f m now x.0 a one x.1 x.2 used into) x.3;
  whole_of = λ n w. along s f m to (suc n + i) (n + (i + 1)) (omega arith) (back.whole_of (suc n) (a, used, into, w));
}

-- no walk below the steps that were made
pub IsBack-end : (s : SpecValue) (f : Bits) (m to now i n : ℕ) → IsBack s f m to now i → n ≤ i → ¬ WalkBelow s f m to n
IsBack-end s f m to now i n back h w = back.none_shorter w.0 (omega (arith, h, w.1)) w.2
