use Rattle.std.proofs.Common.{◌≡◌, ℕ, zero, suc, ◌+◌, ◌^◌, ◌<◌, ◌≤◌, Bool, true, false, ℤ, pos, negsuc, neg_ℤ, ◌+ℤ◌, ◌≤ℤ◌, List, [], ◌∷◌, ◌++◌, length, get_or, take, cond, arith, refl, sym, ◌∙◌, ap, All, subst, length-append}
use Rattle.std.proofs.Common.{Vec, Global, Result, Ok, Err, IfOk}
use Rattle.std.specs.declared.alloc.AllocError.{AllocError}
use Rattle.std.specs.Int.RustNames.{unsigned_abs}
use Rattle.std.specs.List.Sorted.{IsNonDecreasingBy, IsPermutation}
use Rattle.std.proofs.lemmas.List.Sorted.{length_permutation}
use Rattle.std.proofs.lemmas.Int.{ints}
use Rattle.std.proofs.lemmas.List.{take_more, take_all, get_or_default}
use Rattle.std.proofs.lemmas.List.Sums.{sum_by_push}
use Rattle.std.proofs.lemmas.List.Elements.{All-push}
use Rattle.std.proofs.lemmas.List.Quantifiers.{all_pairs_push}
use Rattle.pb_constraints.specs.declared.parts.Part.{Part}
use Rattle.pb_constraints.specs.declared.groups.Group.{Group}
use Rattle.pb_constraints.specs.SignedSums.{sum_z, share, signed}
use Rattle.pb_constraints.specs.Groups.{var_of}
use Rattle.pb_constraints.specs.Groups.{IsGrouping, AreGroupsOf, closed, group_share, magnitude}
use Rattle.pb_constraints.proofs.IntegerSums.{sum_z_push, sum_z-IsPermutation}

abbrev Nonzero : Group → Type 0
Nonzero g = 0 < unsigned_abs g.sum

abbrev SmallVar : Group → Type 0
SmallVar g = g.var < 2 ^ 62

abbrev VarBelow : ℕ → Group → Type 0
VarBelow x g = g.var < x

abbrev Earlier : Group → Group → Type 0
Earlier g h = g.var < h.var

pushed : (ps : List Part) (gs : List Group) (x : ℕ) (z : ℤ) → IsGrouping ps gs x z → 0 < unsigned_abs z → AreGroupsOf ps (gs ++ record { var = x; sum = z } ∷ [])
pushed ps gs x z g h =
    let last : Group = record { var = x; sum = z } in
    record {
      nonzero = All-push Nonzero gs last g.nonzero h;
      small = All-push SmallVar gs last g.small g.small_last;
      rising = all_pairs_push Earlier gs last g.rising g.below;
      same = λ q. sum_z_push (group_share q) gs last ∙ g.same q;
      bound = omega (arith, sum_by_push magnitude gs last, g.bound);
    }

-- every group is below a variable beyond the last one
closed_below : (gs : List Group) (x y : ℕ) (z : ℤ) → All (VarBelow x) gs → x < y → All (VarBelow y) (closed gs x z)
closed_below gs x y (pos zero) a h = λ k d l. omega (arith, a k d l)
closed_below gs x y (pos (suc n)) a h = All-push (VarBelow y) gs (record { var = x; sum = pos (suc n) }) (λ k d l. omega (arith, a k d l)) h
closed_below gs x y (negsuc n) a h = All-push (VarBelow y) gs (record { var = x; sum = negsuc n }) (λ k d l. omega (arith, a k d l)) h

-- one more part of the same variable
pub grouping_more : (ps : List Part) (gs : List Group) (x : ℕ) (z : ℤ) (p : Part) (y : ℤ) → IsGrouping ps gs x z → p.lit.var ≡ x → y ≡ z +ℤ signed p → neg_ℤ (pos (2 ^ 63)) ≤ℤ signed p
    → signed p ≤ℤ pos (2 ^ 63) → IsGrouping (ps ++ p ∷ []) gs x y
grouping_more ps gs x z p y g ex ey low high = record {
  nonzero = g.nonzero;
  small = g.small;
  small_last = g.small_last;
  rising = g.rising;
  below = g.below;
  same = λ q. omega (arith, ints, g.same q, sum_z_push (share q) ps p, added q (q x) refl);
  bound = omega (arith, ints, g.bound, length-append ps (p ∷ []));
}
  where
    added : (q : ℕ → Bool) (b : Bool) → q x ≡ b → group_share q (record { var = x; sum = y }) ≡ group_share q (record { var = x; sum = z }) +ℤ share q p
    added q true e = rw (ex, e) ey
    added q false e = rw (ex, e) refl

-- the last group closed
pub grouping_done : (ps : List Part) (gs : List Group) (x : ℕ) (z : ℤ) → IsGrouping ps gs x z → AreGroupsOf ps (closed gs x z)
grouping_done ps gs x (pos zero) g = record {
  nonzero = g.nonzero;
  small = g.small;
  rising = g.rising;
  same = λ q. omega (arith, ints, g.same q, none (q x));
  bound = omega (arith, g.bound);
}
  where
    none : (b : Bool) → cond b (pos 0) (pos 0) ≡ pos 0
    none true = refl
    none false = refl
grouping_done ps gs x (pos (suc n)) g = pushed ps gs x (pos (suc n)) g (omega arith)
grouping_done ps gs x (negsuc n) g = pushed ps gs x (negsuc n) g (omega arith)

-- a further variable
pub grouping_next : (ps : List Part) (gs : List Group) (x : ℕ) (z : ℤ) (y : ℕ) → IsGrouping ps gs x z → x < y → y < 2 ^ 62 → IsGrouping ps (closed gs x z) y (pos 0)
grouping_next ps gs x z y g h l =
    let a = grouping_done ps gs x z g in
    record {
      nonzero = a.nonzero;
      small = a.small;
      small_last = l;
      rising = a.rising;
      below = closed_below gs x y z g.below h;
      same = λ q. omega (arith, ints, a.same q, none (q y));
      bound = omega (arith, a.bound);
    }
  where
    none : (b : Bool) → cond b (pos 0) (pos 0) ≡ pos 0
    none true = refl
    none false = refl

-- what the code has at its steps
pub at_end : (ps : List Part) (n : ℕ) (gs hs : List Group) (x : ℕ) (z w : ℤ) → IsGrouping (take n ps) gs x z → length ps ≤ n → w ≡ z → hs ≡ closed gs x w → AreGroupsOf ps hs
at_end ps n gs hs x z w g l ew eh =
    let P : List Part → Type 0 = λ qs. AreGroupsOf qs (closed gs x z) in
    let a = subst P (take_all n ps l) (grouping_done (take n ps) gs x z g) in
    let Q : List Group → Type 0 = λ qs. AreGroupsOf ps qs in
    subst Q (sym (eh ∙ ap (closed gs x) ew)) a

-- the next part has the same variable
pub at_same : (ps : List Part) (i : ℕ) (gs hs : List Group) (x x' : ℕ) (z w : ℤ) (p : Part) (y : ℤ) → IsGrouping (take i ps) gs x z → i < length ps → p ≡ get_or ps i p → p.lit.var ≡ x → hs ≡ gs
    → x' ≡ x → w ≡ z → y ≡ w +ℤ signed p → neg_ℤ (pos (2 ^ 63)) ≤ℤ signed p → signed p ≤ℤ pos (2 ^ 63) → IsGrouping (take (i + 1) ps) hs x' y
at_same ps i gs hs x x' z w p y g l ep ex eh ex' ew ey low high =
    let P : List Part → Type 0 = λ qs. IsGrouping qs gs x y in
    let e : take (i + 1) ps ≡ take i ps ++ p ∷ [] = take_more ps i p l ∙ ap (λ (q : Part). take i ps ++ q ∷ []) (sym ep) in
    let a = subst P (sym e) (grouping_more (take i ps) gs x z p y g ex (ey ∙ ap (λ (u : ℤ). u +ℤ signed p) ew) low high) in
    let Q : List Group → Type 0 = λ qs. IsGrouping (take (i + 1) ps) qs x y in
    let R : ℕ → Type 0 = λ u. IsGrouping (take (i + 1) ps) hs u y in
    subst R (sym ex') (subst Q (sym eh) a)

-- the next part has a further variable
pub at_next : (ps : List Part) (i : ℕ) (gs hs : List Group) (x x' : ℕ) (z w : ℤ) (p : Part) (u y : ℤ) → IsGrouping (take i ps) gs x z → i < length ps → p ≡ get_or ps i p → x ≤ p.lit.var
    → ¬ (p.lit.var ≡ x) → p.lit.var < 2 ^ 62 → w ≡ z → hs ≡ closed gs x w → x' ≡ p.lit.var → u ≡ pos 0 → y ≡ u +ℤ signed p → neg_ℤ (pos (2 ^ 63)) ≤ℤ signed p → signed p ≤ℤ pos (2 ^ 63)
    → IsGrouping (take (i + 1) ps) hs x' y
at_next ps i gs hs x x' z w p u y g l ep h ne small ew eh ex' eu ey low high =
    let n = grouping_next (take i ps) gs x z p.lit.var g (omega arith) small in
    at_same ps i (closed gs x z) hs p.lit.var x' (pos 0) u p y n l ep refl (eh ∙ ap (closed gs x) ew) ex' eu ey low high

-- the order of the next one
pub at_order : (ps : List Part) (i : ℕ) (p : Part) (x : ℕ) → IsNonDecreasingBy var_of ps → p ≡ get_or ps i p → x ≡ p.lit.var → (d : Part) → i + 1 < length ps → x ≤ var_of (get_or ps (i + 1) d)
at_order ps i p x o ep ex d l =
    omega (arith, ap var_of ep, ap var_of (get_or_default ps i p d (omega arith)), o i (i + 1) d (omega arith) l)

-- the order of the parts doesn't matter
in_any_order : (ps qs os : List Part) (gs : List Group) → IsPermutation ps os → qs ≡ os → AreGroupsOf qs gs → AreGroupsOf ps gs
in_any_order ps qs os gs perm e a = record {
  nonzero = a.nonzero;
  small = a.small;
  rising = a.rising;
  same = λ q. a.same q ∙ ap (sum_z (share q)) e ∙ sum_z-IsPermutation (share q) ps os perm;
  bound = omega (arith, a.bound, ap length e, length_permutation ps os perm);
}

-- nor for the answer of the code
pub any_order_gives : (ps qs os : List Part) (r : Result (Vec Group Global) AllocError) → IsPermutation ps os → qs ≡ os → IfOk r (λ gs. AreGroupsOf qs gs.items)
    → IfOk r (λ gs. AreGroupsOf ps gs.items)
any_order_gives ps qs os (Ok gs) perm e a = in_any_order ps qs os gs.items perm e a
any_order_gives ps qs os (Err f) perm e a = a
