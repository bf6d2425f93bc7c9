-- Each variable is one of the design, a step of a resource for a message, or a cover of one.
use Rattle.std.proofs.Common.{◌≡◌, ℕ, zero, suc, ◌+◌, ◌-◌, ◌*◌, ◌/◌, ◌%◌, ◌<◌, ◌≤◌, length, subst, arith, add-one, ◌⊎◌, inl, inr}
use Rattle.std.proofs.lemmas.Bool.{cases_lt}
use Rattle.std.proofs.lemmas.Nat.{div-add-mod', div_below, mod_below}
use Rattle.spec_model.specs.Spec.{SpecValue, Bits, message_at, further, base, design_variables, step_var, covered_var}
use Rattle.spec_model.proofs.Numbers.{base-zero, base_more}

-- a place among the further variables of a message
pub record IsWithin (s : SpecValue) (v n : ℕ) : Type 0 where
  pub message : ℕ
  pub in_range : message < n
  pub place : ℕ
  pub within : place < further s (message_at s message)
  pub at_place : v ≡ base s message + place

within_of : (s : SpecValue) (v n : ℕ) → n ≤ length s.messages → v < base s n → (v < design_variables s) ⊎ IsWithin s v n
within_of s v zero h l = inl (omega (arith, l, base-zero s))
within_of s v (suc n) h l =
    let next : base s (suc n) ≡ base s n + further s (message_at s n) = subst (λ (k : ℕ). base s k ≡ base s n + further s (message_at s n)) (add-one n) (base_more s n h) in
    elim (cases_lt v (base s n)) [
      | inl k ↦ elim (within_of s v n (omega (arith, h)) k) [
        | inl d ↦ inl d
        | inr x ↦ inr (record { message = x.message; in_range = omega (arith, x.in_range); place = x.place; within = x.within; at_place = x.at_place })
      ]
      | inr k ↦ inr (record { message = n; in_range = omega arith; place = v - base s n; within = omega (arith, l, k, next); at_place = omega (arith, k) })
    ]

-- assignments that agree at the variables of each kind agree
pub agree_at : (s : SpecValue) (f g : Bits)
    → ((v : ℕ) → v < design_variables s → f v ≡ g v)
    → ((m r t : ℕ) → m < length s.messages → r < length s.resources → t ≤ (message_at s m).limit → f (step_var s m r t) ≡ g (step_var s m r t))
    → ((m r : ℕ) → m < length s.messages → r < length s.resources → f (covered_var s m r) ≡ g (covered_var s m r))
    → (v : ℕ) → v < base s (length s.messages) → f v ≡ g v
agree_at s f g design steps covers v l =
    elim (within_of s v (length s.messages) (omega arith) l) [
      | inl d ↦ design v d
      | inr x ↦ at x (cases_lt x.place (length s.resources * ((message_at s x.message).limit + 1)))
    ]
  where
    at : (x : IsWithin s v (length s.messages)) → ((x.place < length s.resources * ((message_at s x.message).limit + 1)) ⊎ (length s.resources * ((message_at s x.message).limit + 1) ≤ x.place))
        → f v ≡ g v
    at x (inl k) =
        let w = (message_at s x.message).limit + 1 in
        let r = x.place / w in
        let t = x.place % w in
        let hr : r < length s.resources = div_below x.place w (length s.resources) (omega arith) k in
        let ht : t ≤ (message_at s x.message).limit = omega (arith, mod_below x.place w (omega arith)) in
        let e : step_var s x.message r t ≡ v = omega (arith, x.at_place, div-add-mod' x.place w) in
        subst (λ (u : ℕ). f u ≡ g u) e (steps x.message r t x.in_range hr ht)
    at x (inr k) =
        let w = (message_at s x.message).limit + 1 in
        let r = x.place - length s.resources * w in
        let hr : r < length s.resources = omega (arith, k, x.within) in
        let e : covered_var s x.message r ≡ v = omega (arith, x.at_place, k) in
        subst (λ (u : ℕ). f u ≡ g u) e (covers x.message r x.in_range hr)
