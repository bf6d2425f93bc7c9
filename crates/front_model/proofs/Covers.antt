-- The tests of a cover.
use Rattle.std.proofs.Common.{◌≡◌, ℕ, zero, suc, ◌+◌, ◌<◌, ◌≤◌, Bool, true, false, ltb, List, [], ◌∷◌, length, get_or, refl, sym, subst, arith, inl, inr}
use Rattle.std.specs.Prelude.{slice_index}
use Rattle.std.specs.List.{list_any, list_all, position_or_len, range_with_len}
use Rattle.std.proofs.lemmas.Bool.{cases_lt, cases_Bool, ltb-false, le-ltb, leb-true, le-leb, and_parts}
use Rattle.std.proofs.lemmas.List.{get_or_past}
use Rattle.spec_model.specs.Spec.{SpecValue}
use Rattle.spec_model.specs.Vectors.{IsAtMost}
use Rattle.encode_model.specs.Block.{total_weight, IsWithinWeights}
use Rattle.front_model.specs.Proofs.{HasBelow}
use Rattle.front_model.specs.Judging.{is_above, first_above, is_at_most_at, is_at_most}
use Rattle.front_model.proofs.Exact.{before_all}

-- ---- all numbers from a on

all_at : (p : ℕ → Bool) (n a i : ℕ) → list_all p (range_with_len a n) ≡ true → i < n → p (a + i) ≡ true
all_at p zero a i h l = absurd (omega arith)
all_at p (suc n) a zero h l =
    let e : a ≡ a + 0 = omega arith in
    subst (λ (k : ℕ). p k ≡ true) e (and_parts (p a) (list_all p (range_with_len (a + 1) n)) h).0
all_at p (suc n) a (suc i) h l =
    let e : (a + 1) + i ≡ a + suc i = omega arith in
    subst (λ (k : ℕ). p k ≡ true) e (all_at p n (a + 1) i (and_parts (p a) (list_all p (range_with_len (a + 1) n)) h).1 (omega arith))

at_all : (p : ℕ → Bool) (n a : ℕ) → ((i : ℕ) → i < n → p (a + i) ≡ true) → list_all p (range_with_len a n) ≡ true
at_all p zero a h = refl
at_all p (suc n) a h =
    let e : a + 0 ≡ a = omega arith in
    let here : p a ≡ true = subst (λ (k : ℕ). p k ≡ true) e (h 0 (omega arith)) in
    rw here (at_all p n (a + 1) (λ i l. let e' : a + suc i ≡ (a + 1) + i = omega arith in subst (λ (k : ℕ). p k ≡ true) e' (h (suc i) (omega arith))))

-- ---- at most

pub at_most_of : (u v : List ℕ) → is_at_most v u ≡ true → IsAtMost u v
at_most_of u v h j =
    elim (cases_lt j (length u)) [
      | inl l ↦ (let e : 0 + j ≡ j = omega arith in leb-true (slice_index u j) (slice_index v j) (subst (λ (k : ℕ). is_at_most_at u v k ≡ true) e (all_at (is_at_most_at u v) (length u) 0 j h l)))
      | inr l ↦ omega (arith, get_or_past u j 0 l)
    ]

-- a vector that is at most another one passes the test
pub of_at_most : (u v : List ℕ) → IsAtMost u v → is_at_most v u ≡ true
of_at_most u v h = at_all (is_at_most_at u v) (length u) 0 (λ i l. le-leb (slice_index u (0 + i)) (slice_index v (0 + i)) (h (0 + i)))

pub below_of_any : (us : List (List ℕ)) (v : List ℕ) → list_any (is_at_most v) us ≡ true → HasBelow us v
below_of_any [] v h = absurd (let c : false ≡ true = h in cc)
below_of_any (u ∷ us) v h =
    elim (cases_Bool (is_at_most v u)) [
      | inl t ↦ record { vector = u; there = (0, omega arith, refl); below = at_most_of u v t }
      | inr f ↦
          let later : list_any (is_at_most v) us ≡ true = rw f at h in
          let b = below_of_any us v later in
          record { vector = b.vector; there = before_all u us b.vector b.there; below = b.below }
    ]

any_at : (us : List (List ℕ)) (v w : List ℕ) (k : ℕ) → k < length us → get_or us k w ≡ w → IsAtMost w v → list_any (is_at_most v) us ≡ true
any_at [] v w k l e h = absurd (omega arith)
any_at (u ∷ us) v w zero l e h =
    let here : is_at_most v u ≡ true = subst (λ (x : List ℕ). is_at_most v x ≡ true) (sym e) (of_at_most w v h) in
    rw here refl
any_at (u ∷ us) v w (suc k) l e h =
    let more = any_at us v w k (omega arith) e h in
    elim (cases_Bool (is_at_most v u)) [
      | inl t ↦ rw t refl
      | inr f ↦ rw f more
    ]

pub any_of_below : (us : List (List ℕ)) (v : List ℕ) → HasBelow us v → list_any (is_at_most v) us ≡ true
any_of_below us v h = any_at us v h.vector h.there.0 h.there.1 h.there.2 h.below

-- ---- within the weights

none_before : (p : ℕ → Bool) (n a i : ℕ) → i < position_or_len p (range_with_len a n) → i < n → p (a + i) ≡ false
none_before p zero a i h l = absurd (omega arith)
none_before p (suc n) a i h l =
    elim (cases_Bool (p a)) [
      | inl t ↦ absurd (let z : position_or_len p (range_with_len a (suc n)) ≡ 0 = rw t refl in omega (arith, h, z))
      | inr f ↦ go (λ k. none_before p n (a + 1) k) i (let s : position_or_len p (range_with_len a (suc n)) ≡ position_or_len p (range_with_len (a + 1) n) + 1 = rw f (omega arith) in
          omega (arith, h, s)) l f
    ]
  where
    go : ((k : ℕ) → k < position_or_len p (range_with_len (a + 1) n) → k < n → p ((a + 1) + k) ≡ false) → (i : ℕ) → i < position_or_len p (range_with_len (a + 1) n) + 1 → i < suc n → p a ≡ false
        → p (a + i) ≡ false
    go ih zero h l f = (let e : a ≡ a + 0 = omega arith in subst (λ (k : ℕ). p k ≡ false) e f)
    go ih (suc i) h l f = (let e : (a + 1) + i ≡ a + suc i = omega arith in subst (λ (k : ℕ). p k ≡ false) e (ih i (omega (arith, h)) (omega (arith, l))))

none_all : (p : ℕ → Bool) (n a : ℕ) → ((i : ℕ) → i < n → p (a + i) ≡ false) → position_or_len p (range_with_len a n) ≡ n
none_all p zero a h = refl
none_all p (suc n) a h =
    let e : a + 0 ≡ a = omega arith in
    let here : p a ≡ false = subst (λ (k : ℕ). p k ≡ false) e (h 0 (omega arith)) in
    let more = none_all p n (a + 1) (λ i l. let e' : a + suc i ≡ (a + 1) + i = omega arith in subst (λ (k : ℕ). p k ≡ false) e' (h (suc i) (omega arith))) in
    rw here (omega (arith, more))

pub within_of : (s : SpecValue) (v : List ℕ) → ltb (first_above s v) (length v) ≡ false → IsWithinWeights s v
within_of s v h j l =
    let all : length v ≤ first_above s v = ltb-false (first_above s v) (length v) h in
    let e : 0 + j ≡ j = omega arith in
    let here : is_above s v j ≡ false = subst (λ (k : ℕ). is_above s v k ≡ false) e (none_before (is_above s v) (length v) 0 j (omega (arith, all, l)) l) in
    ltb-false (total_weight s j) (slice_index v j) here

pub of_within : (s : SpecValue) (v : List ℕ) → IsWithinWeights s v → ltb (first_above s v) (length v) ≡ false
of_within s v h =
    let all = none_all (is_above s v) (length v) 0 (λ i l. le-ltb (total_weight s (0 + i)) (slice_index v (0 + i)) (h (0 + i) (omega arith))) in
    le-ltb (first_above s v) (length v) (omega (arith, all))
