-- Terms by falling coefficient.
use Rattle.std.proofs.Common.{◌≡◌, ℕ, ◌+◌, ◌-◌, ◌<◌, ◌≤◌, ◌^◌, List, length, get_or, take, sym, ap, ◌∙◌, subst, arith, inl, inr, All}
use Rattle.std.specs.List.Sorted.{IsNonDecreasingBy, IsPermutation}
use Rattle.std.proofs.lemmas.List.Sorted.{All-permutation}
use Rattle.std.proofs.lemmas.List.Elements.{All-more}
use Rattle.std.proofs.lemmas.List.{length-take-le, get_or-take, get_or_default}
use Rattle.std.proofs.lemmas.Bool.{cases_lt}
use Rattle.pb_rules.specs.declared.Term.{Term}
use Rattle.pb_rules.specs.Linear.{total}
use Rattle.pb_rules.proofs.Merges.{coef-le}
use Rattle.propagate.specs.Ranked.{IsFalling, IsRanking}

-- how far a coefficient is below the greatest number of a word
abbrev pub below_greatest : Term → ℕ
below_greatest t = 18446744073709551615 - t.coef

-- what rises by that falls by its coefficient
pub falling_from : (ts : List Term) → All (λ (t : Term). t.coef < 2 ^ 64) ts → IsNonDecreasingBy below_greatest ts → IsFalling ts
falling_from ts small up i j d le lt =
    let a = small i d (omega arith) in
    let b = small j d lt in
    let c = up i j d le lt in
    omega (arith, a, b, c)

-- one more coefficient that isn't greater
pub falling_more : (ts : List Term) (k last : ℕ) (t : Term) → k < length ts → t ≡ get_or ts k t → IsFalling (take k ts) → All (λ (u : Term). last ≤ u.coef) (take k ts) → t.coef ≤ last
    → IsFalling (take (k + 1) ts)
falling_more ts k last t h at falling bound le i j d ij lt =
    let coef : Term → ℕ = λ u. u.coef in
    let len : length (take (k + 1) ts) ≡ k + 1 = length-take-le (k + 1) ts (omega arith) in
    let len' : length (take k ts) ≡ k = length-take-le k ts (omega arith) in
    let below : j < k + 1 = omega (arith, len) in
    let gi = get_or-take (k + 1) ts i d (omega arith) in
    let gj = get_or-take (k + 1) ts j d below in
    elim (cases_lt j k) [
      | inl a ↦ (
          let f = falling i j d ij (omega (arith, len')) in
          let pi = ap coef (gi ∙ sym (get_or-take k ts i d (omega arith))) in
          let pj = ap coef (gj ∙ sym (get_or-take k ts j d a)) in
          omega (arith, f, pi, pj))
      | inr a ↦ (
          let jk : j ≡ k = omega arith in
          let pj = ap coef (gj ∙ ap (λ (m : ℕ). get_or ts m d) jk ∙ get_or_default ts k d t h ∙ sym at) in
          elim (cases_lt i k) [
            | inl b ↦ (
                let pi = ap coef (gi ∙ sym (get_or-take k ts i d b)) in
                let f = bound i d (omega (arith, len')) in
                omega (arith, f, pi, pj))
            | inr b ↦ (
                let ji : j ≡ i = omega arith in
                let same = ap (λ (m : ℕ). coef (get_or (take (k + 1) ts) m d)) ji in
                omega (arith, same))
          ])
    ]

-- and none that was there is less
pub bound_more : (ts : List Term) (k last : ℕ) (t : Term) → k < length ts → t ≡ get_or ts k t → All (λ (u : Term). last ≤ u.coef) (take k ts) → t.coef ≤ last
    → All (λ (u : Term). t.coef ≤ u.coef) (take (k + 1) ts)
bound_more ts k last t h at bound le =
    let P : Term → Type 0 = λ u. t.coef ≤ u.coef in
    All-more P ts k t h (λ j d l. (let b = bound j d l in omega arith)) (subst P at (omega arith))

pub falling_none : (ts : List Term) → IsFalling (take 0 ts)
falling_none ts i j d le lt = absurd (omega arith)

-- after a sort
pub ranking_from : (ts ranked : List Term) → total ts < 2 ^ 63 → IsPermutation ts ranked → IsNonDecreasingBy below_greatest ranked → IsRanking ts ranked
ranking_from ts ranked small moved up =
    let P : Term → Type 0 = λ t. t.coef < 2 ^ 64 in
    let each : All P ts = λ k d h. (let a = coef-le ts k (get_or ts k d) h (get_or_default ts k d (get_or ts k d) h) in omega (arith, a)) in
    record { moved = moved; falling = falling_from ranked (All-permutation P ts ranked moved each) up }
