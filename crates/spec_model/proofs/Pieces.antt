-- Lists that are laid end to end, one piece for each number below n: how long they are, and what stands where.
use Rattle.std.proofs.Common.{◌≡◌, ℕ, zero, suc, ◌+◌, ◌*◌, ◌<◌, ◌≤◌, List, [], ◌++◌, length, get_or, refl, sym, ap, ◌∙◌, subst, arith, add-one, ◌⊎◌, inl, inr}
use Rattle.std.specs.List.{flat_map}
use Rattle.std.proofs.lemmas.List.{get_or_append_left, get_or-append-add, length-append}
use Rattle.spec_model.specs.Spec.{below}
use Rattle.spec_model.proofs.Those.{flat_map-below_more, cases_suc}

-- what the next number gives stands behind what the others give
pub flat-suc : {A : Type 0} (g : ℕ → List A) (n : ℕ) → flat_map g (below (suc n)) ≡ flat_map g (below n) ++ g n
flat-suc g n = subst (λ (k : ℕ). flat_map g (below k) ≡ flat_map g (below n) ++ g n) (add-one n) (flat_map-below_more g n)

-- pieces of one width
pub width : {A : Type 0} (g : ℕ → List A) (w n : ℕ) → ((i : ℕ) → length (g i) ≡ w) → length (flat_map g (below n)) ≡ n * w
width g w zero h = omega arith
width g w (suc n) h = ap length (flat-suc g n) ∙ (length-append (flat_map g (below n)) (g n) ∙ omega (arith, width g w n h, h n, times w n))
  where
    times : (w n : ℕ) → suc n * w ≡ n * w + w
    times w n = omega arith

-- the pieces before the i-th end where it begins
pub shorter : {A : Type 0} (g : ℕ → List A) (n i : ℕ) → i < n → length (flat_map g (below i)) + length (g i) ≤ length (flat_map g (below n))
shorter g zero i h = absurd (omega (arith, h))
shorter g (suc n) i h =
    let whole = ap length (flat-suc g n) ∙ length-append (flat_map g (below n)) (g n) in
    elim (cases_suc i n h) [
      | inl e ↦ subst (λ (k : ℕ). length (flat_map g (below k)) + length (g k) ≤ length (flat_map g (below (suc n)))) (sym e) (omega (arith, whole))
      | inr l ↦ omega (arith, whole, shorter g n i l)
    ]

-- the j-th of the i-th piece
pub piece : {A : Type 0} (g : ℕ → List A) (n i j : ℕ) (d : A) → i < n → j < length (g i) → get_or (flat_map g (below n)) (length (flat_map g (below i)) + j) d ≡ get_or (g i) j d
piece g zero i j d h l = absurd (omega (arith, h))
piece {A = A} g (suc n) i j d h l =
    ap (λ (xs : List A). get_or xs (length (flat_map g (below i)) + j) d) (flat-suc g n)
    ∙ elim (cases_suc i n h) [
      | inl e ↦ subst (λ (k : ℕ). get_or (flat_map g (below n) ++ g n) (length (flat_map g (below k)) + j) d ≡ get_or (g k) j d) (sym e) (get_or-append-add (flat_map g (below n)) (g n) j d)
      | inr k ↦ get_or_append_left (flat_map g (below n)) (g n) d (length (flat_map g (below i)) + j) (omega (arith, shorter g n i k, l)) ∙ piece g n i j d k l
    ]

-- the j-th of the i-th piece, where all pieces have one width
pub piece_of_width : {A : Type 0} (g : ℕ → List A) (w n i j : ℕ) (d : A) → ((i : ℕ) → length (g i) ≡ w) → i < n → j < w → get_or (flat_map g (below n)) (i * w + j) d ≡ get_or (g i) j d
piece_of_width g w n i j d h hi hj =
    ap (λ (k : ℕ). get_or (flat_map g (below n)) (k + j) d) (sym (width g w i h)) ∙ piece g n i j d hi (omega (arith, hj, h i))
