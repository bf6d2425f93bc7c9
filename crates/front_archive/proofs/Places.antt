-- The test of vectors and "at most in each place".
use Rattle.std.proofs.Common.{◌≡◌, ℕ, zero, suc, ◌&&◌, Bool, true, List, [], ◌∷◌, length, get_or, refl, ap₂, arith}
use Rattle.std.proofs.lemmas.Bool.{leb-true, le-leb}
use Rattle.std.specs.Cmp.{first_so, second_so}
use Rattle.spec_model.specs.Vectors.{IsAtMost}
use Rattle.front_archive.specs.AtMost.{at_most}

none_at : (j : ℕ) → get_or {A = ℕ} [] j 0 ≡ 0
none_at zero = refl
none_at (suc j) = refl

pub each_place : (u v : List ℕ) → at_most u v ≡ true → IsAtMost u v
each_place [] v e j = omega (arith, none_at j)
each_place (x ∷ u) [] e j = absurd (cc)
each_place (x ∷ u) (y ∷ v) e zero = leb-true x y (first_so _ _ e)
each_place (x ∷ u) (y ∷ v) e (suc j) = each_place u v (second_so _ _ e) j

pub by_places : (u v : List ℕ) → length u ≡ length v → IsAtMost u v → at_most u v ≡ true
by_places [] v long h = refl
by_places (x ∷ u) [] long h = absurd (omega (arith, long))
by_places (x ∷ u) (y ∷ v) long h = ap₂ (λ (s t : Bool). s && t) (le-leb x y (h zero)) (by_places u v (omega (arith, long)) (λ j. h (suc j)))

pub same_both : (u v : List ℕ) → at_most u v ≡ true → at_most v u ≡ true → u ≡ v
same_both [] [] e g = refl
same_both [] (y ∷ v) e g = absurd (cc)
same_both (x ∷ u) [] e g = absurd (cc)
same_both (x ∷ u) (y ∷ v) e g =
    let a = leb-true x y (first_so _ _ e) in
    let b = leb-true y x (first_so _ _ g) in
    let same : x ≡ y = omega (arith, a, b) in
    ap₂ (λ (z : ℕ) (zs : List ℕ). z ∷ zs) same (same_both u v (second_so _ _ e) (second_so _ _ g))
