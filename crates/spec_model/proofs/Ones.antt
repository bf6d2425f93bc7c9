-- There is one first design in an order.
use Rattle.std.proofs.Common.{◌≡◌, ℕ, suc, ◌<◌, ◌⊎◌, Bool, List, [], ◌∷◌, length, refl, sym, ap, ap₂, ◌∙◌, arith, inl, inr}
use Rattle.std.proofs.lemmas.Bool.{cases_lt}
use Rattle.spec_model.specs.Spec.{Bits, bits_of}
use Rattle.spec_model.specs.Genotypes.{GeneValue, gene_at, StandsBefore, IsBefore, IsSame, IsFirstAmong}

-- of two variables one stands before the other
one_before : (genes : List GeneValue) (v w : ℕ) → StandsBefore genes v w ⊎ ((v ≡ w) ⊎ StandsBefore genes w v)
one_before genes v w =
    let p : ℕ = (gene_at genes v).priority in
    let q : ℕ = (gene_at genes w).priority in
    elim (cases_lt q p) [
      | inl l ↦ inl (inl l)
      | inr h ↦ elim (cases_lt p q) [
        | inl l ↦ inr (inr (inl l))
        | inr g ↦ elim (cases_lt v w) [
          | inl l ↦ inl (inr (omega (arith, h, g), l))
          | inr m ↦ elim (cases_lt w v) [
            | inl l ↦ inr (inr (inr (omega (arith, h, g), l)))
            | inr n ↦ inr (inl (omega (arith, m, n)))
          ]
        ]
      ]
    ]

-- not both before each other
both_before : (genes : List GeneValue) (f g : Bits) → IsBefore genes f g → IsBefore genes g f → ⊥
both_before genes f g a b =
    elim (one_before genes a.variable b.variable) [
      | inl early ↦ a.differ (b.same a.variable a.in_range early)
      | inr other ↦ elim other [
        | inl same ↦ a.differ (ap g same ∙ (b.phase ∙ sym (ap (λ (v : ℕ). (gene_at genes v).phase) same) ∙ sym a.phase))
        | inr late ↦ b.differ (a.same b.variable b.in_range late)
      ]
    ]

same_bits : (f g : List Bool) → length f ≡ length g → ((v : ℕ) → v < length f → bits_of f v ≡ bits_of g v) → f ≡ g
same_bits [] [] e h = refl
same_bits [] (y ∷ g) e h = absurd (omega (arith, e))
same_bits (x ∷ f) [] e h = absurd (omega (arith, e))
same_bits (x ∷ f) (y ∷ g) e h =
    ap₂ (λ (b : Bool) (bs : List Bool). b ∷ bs) (h 0 (omega arith)) (same_bits f g (omega (arith, e)) (λ v l. h (suc v) (omega (arith, l))))

-- two that are the first are the same
pub first_is_one : (P : Bits → Type 0) (n : ℕ) (genes : List GeneValue) (d e : List Bool)
    → length d ≡ n → length e ≡ n → IsFirstAmong P n genes (bits_of d) → IsFirstAmong P n genes (bits_of e) → d ≡ e
first_is_one P n genes d e l m a b = same_bits d e (l ∙ sym m) (λ v k. agree v (omega (arith, k, l)))
  where
    agree : IsSame n (bits_of d) (bits_of e)
    agree = elim (a.first (bits_of e) b.meets) [
      | inl same ↦ same
      | inr before ↦ elim (b.first (bits_of d) a.meets) [
        | inl same ↦ (λ v k. sym (same v k))
        | inr back ↦ absurd (both_before genes (bits_of d) (bits_of e) before back)
      ]
    ]
