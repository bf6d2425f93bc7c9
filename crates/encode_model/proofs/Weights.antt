-- What a constraint of the encoding says: the coefficients of its true terms, added up.
use Rattle.std.proofs.Common.{◌≡◌, ℕ, ◌+◌, ◌-◌, ◌≤◌, Bool, true, false, cond, List, [], ◌∷◌, ◌++◌, length, refl, sym, ap, ◌∙◌, arith}
use Rattle.std.specs.Prelude.{not, nat_lt}
use Rattle.std.specs.List.{count_by}
use Rattle.std.proofs.lemmas.List.Sums.{sum_by-append}
use Rattle.pb_rules.specs.declared.Term.{Term}
use Rattle.pb_rules.specs.Literal.{lit_true}
use Rattle.pb_rules.specs.Linear.{true_weight, Holds}
use Rattle.pb_rules.proofs.Sums.{true_weight-cons}
use Rattle.spec_model.specs.Spec.{Bits}
use Rattle.spec_model.proofs.Counts.{bit, count-cons}
use Rattle.encode_model.specs.Encoding.{positive, negative, positives, negatives, put, by_variable, at_least}

-- the true weight of two lists is the sum of both
pub true_weight-append : (f : Bits) (ts us : List Term) → true_weight f (ts ++ us) ≡ true_weight f ts + true_weight f us
true_weight-append f ts us = sum_by-append (λ (t : Term). cond (lit_true f t.lit) t.coef 0) ts us

-- the true weight of variables counts those that are true
pub weight-positives : (f : Bits) (vs : List ℕ) → true_weight f (positives vs) ≡ count_by f vs
weight-positives f [] = refl
weight-positives f (v ∷ vs) = true_weight-cons f (positive v) (positives vs) ∙ (ap (λ k. bit (f v) + k) (weight-positives f vs) ∙ sym (count-cons f v vs))

-- and that of their opposites those that aren't
pub weight-negatives : (f : Bits) (vs : List ℕ) → true_weight f (negatives vs) + count_by f vs ≡ length vs
weight-negatives f [] = refl
weight-negatives f (v ∷ vs) = omega (arith, true_weight-cons f (negative v) (negatives vs), count-cons f v vs, weight-negatives f vs, both (f v))
  where
    both : (b : Bool) → cond (not b) 1 0 + cond b 1 0 ≡ 1
    both true = refl
    both false = refl

-- the order of the terms doesn't matter
weight-put : (f : Bits) (t : Term) (ts : List Term) → true_weight f (put t ts) ≡ true_weight f (t ∷ ts)
weight-put f t [] = refl
weight-put f t (u ∷ us) = at (nat_lt t.lit.var u.lit.var) (weight-put f t us)
  where
    at : (b : Bool) → true_weight f (put t us) ≡ true_weight f (t ∷ us) → true_weight f (cond b (t ∷ (u ∷ us)) (u ∷ put t us)) ≡ true_weight f (t ∷ (u ∷ us))
    at true e = refl
    at false e = omega (arith, e, true_weight-cons f u (put t us), true_weight-cons f t us, true_weight-cons f t (u ∷ us), true_weight-cons f u us)

weight-by_variable : (f : Bits) (ts : List Term) → true_weight f (by_variable ts) ≡ true_weight f ts
weight-by_variable f [] = refl
weight-by_variable f (t ∷ ts) = omega (arith, weight-put f t (by_variable ts), weight-by_variable f ts, true_weight-cons f t (by_variable ts), true_weight-cons f t ts)

-- a constraint of at least n holds where the true weight is at least n,
pub at_least-holds : (f : Bits) (n : ℕ) (ts : List Term) → n ≤ true_weight f ts → Holds f (at_least n ts)
unfolding at_least
at_least-holds f n ts h = omega (arith, h, weight-by_variable f ts)

-- and only there
pub holds-at_least : (f : Bits) (n : ℕ) (ts : List Term) → Holds f (at_least n ts) → n ≤ true_weight f ts
unfolding at_least
holds-at_least f n ts h = omega (arith, h, weight-by_variable f ts)

-- at least one, and at least all but one of the opposites: exactly one
pub exactly_one : (f : Bits) (vs : List ℕ) → Holds f (at_least 1 (positives vs)) → Holds f (at_least (length vs - 1) (negatives vs)) → count_by f vs ≡ 1
exactly_one f vs h g =
    omega (arith, holds-at_least f 1 (positives vs) h, holds-at_least f (length vs - 1) (negatives vs) g, weight-positives f vs, weight-negatives f vs)

-- the weight of two terms
pub weight_two : (f : Bits) (t u : Term) → true_weight f (t ∷ (u ∷ [])) ≡ cond (lit_true f t.lit) t.coef 0 + cond (lit_true f u.lit) u.coef 0
weight_two f t u = refl_two (cond (lit_true f t.lit) t.coef 0) (cond (lit_true f u.lit) u.coef 0)
  where
    refl_two : (a b : ℕ) → (0 + a) + b ≡ a + b
    refl_two a b = omega arith

-- a clause of two literals, as an implication
pub if_then : (f : Bits) (a b : ℕ) → Holds f (at_least 1 (negative a ∷ (positive b ∷ []))) → f a ≡ true → f b ≡ true
if_then f a b h t = at (f a) (f b) t (omega (arith, holds-at_least f 1 _ h, weight_two f (negative a) (positive b)))
  where
    at : (x y : Bool) → x ≡ true → 1 ≤ cond (not x) 1 0 + cond y 1 0 → y ≡ true
    at x true t h = refl
    at true false t h = absurd (omega (arith, h))
    at false false t h = t

-- a clause of two holds where the first variable makes the second one true
pub from_if_then : (f : Bits) (a b : ℕ) → (f a ≡ true → f b ≡ true) → Holds f (at_least 1 (negative a ∷ (positive b ∷ [])))
from_if_then f a b h = at_least-holds f 1 _ (omega (arith, weight_two f (negative a) (positive b), at (f a) (f b) h))
  where
    at : (x y : Bool) → (x ≡ true → y ≡ true) → 1 ≤ cond (not x) 1 0 + cond y 1 0
    at true y h = omega (arith, ap bit (h refl))
    at false y h = omega arith

-- the same with the literals the other way round
pub then_if : (f : Bits) (a b : ℕ) → Holds f (at_least 1 (positive b ∷ (negative a ∷ []))) → f a ≡ true → f b ≡ true
then_if f a b h t = at (f a) (f b) t (omega (arith, holds-at_least f 1 _ h, weight_two f (positive b) (negative a)))
  where
    at : (x y : Bool) → x ≡ true → 1 ≤ cond y 1 0 + cond (not x) 1 0 → y ≡ true
    at x true t h = refl
    at true false t h = absurd (omega (arith, h))
    at false false t h = t

-- the same, with the literals the other way round
pub from_then_if : (f : Bits) (a b : ℕ) → (f a ≡ true → f b ≡ true) → Holds f (at_least 1 (positive b ∷ (negative a ∷ [])))
from_then_if f a b h = at_least-holds f 1 _ (omega (arith, weight_two f (positive b) (negative a), at (f a) (f b) h))
  where
    at : (x y : Bool) → (x ≡ true → y ≡ true) → 1 ≤ cond y 1 0 + cond (not x) 1 0
    at true y h = omega (arith, ap bit (h refl))
    at false y h = omega arith

-- not both
pub not_both : (f : Bits) (a b : ℕ) → Holds f (at_least 1 (negative a ∷ (negative b ∷ []))) → f a ≡ true → f b ≡ false
not_both f a b h t = at (f a) (f b) t (omega (arith, holds-at_least f 1 _ h, weight_two f (negative a) (negative b)))
  where
    at : (x y : Bool) → x ≡ true → 1 ≤ cond (not x) 1 0 + cond (not y) 1 0 → y ≡ false
    at x false t h = refl
    at true true t h = absurd (omega (arith, h))
    at false true t h = sym t

-- a clause of two opposites holds where not both are true
pub from_not_both : (f : Bits) (a b : ℕ) → (f a ≡ true → f b ≡ false) → Holds f (at_least 1 (negative a ∷ (negative b ∷ [])))
from_not_both f a b h = at_least-holds f 1 _ (omega (arith, weight_two f (negative a) (negative b), at (f a) (f b) h))
  where
    at : (x y : Bool) → (x ≡ true → y ≡ false) → 1 ≤ cond (not x) 1 0 + cond (not y) 1 0
    at true y h = omega (arith, ap (λ (z : Bool). bit (not z)) (h refl))
    at false y h = omega arith

-- a clause of three literals, as an implication
weight_three : (f : Bits) (t u w : Term) → true_weight f (t ∷ (u ∷ (w ∷ []))) ≡ cond (lit_true f t.lit) t.coef 0 + cond (lit_true f u.lit) u.coef 0 + cond (lit_true f w.lit) w.coef 0
weight_three f t u w = three (cond (lit_true f t.lit) t.coef 0) (cond (lit_true f u.lit) u.coef 0) (cond (lit_true f w.lit) w.coef 0)
  where
    three : (a b c : ℕ) → ((0 + a) + b) + c ≡ a + b + c
    three a b c = omega arith

-- a clause of three says that two variables make the third one true,
pub if_both_then : (f : Bits) (a b c : ℕ) → Holds f (at_least 1 (negative a ∷ (negative b ∷ (positive c ∷ [])))) → f a ≡ true → f b ≡ true → f c ≡ true
if_both_then f a b c h ta tb = at (f a) (f b) (f c) ta tb (omega (arith, holds-at_least f 1 _ h, weight_three f (negative a) (negative b) (positive c)))
  where
    at : (x y z : Bool) → x ≡ true → y ≡ true → 1 ≤ cond (not x) 1 0 + cond (not y) 1 0 + cond z 1 0 → z ≡ true
    at x y true tx ty h = refl
    at true true false tx ty h = absurd (omega (arith, h))
    at true false false tx ty h = ty
    at false y false tx ty h = tx

-- and holds where they do
pub from_if_both_then : (f : Bits) (a b c : ℕ) → (f a ≡ true → f b ≡ true → f c ≡ true) → Holds f (at_least 1 (negative a ∷ (negative b ∷ (positive c ∷ []))))
from_if_both_then f a b c h = at_least-holds f 1 _ (omega (arith, weight_three f (negative a) (negative b) (positive c), at (f a) (f b) (f c) h))
  where
    at : (x y z : Bool) → (x ≡ true → y ≡ true → z ≡ true) → 1 ≤ cond (not x) 1 0 + cond (not y) 1 0 + cond z 1 0
    at true true z h = omega (arith, ap bit (h refl refl))
    at true false z h = omega arith
    at false y z h = omega arith
