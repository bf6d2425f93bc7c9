-- What the lanes of a group say, and what one vector being at most another says.
use Rattle.std.proofs.Common.{◌≡◌, ℕ, ◌+◌, ◌<◌, ◌≤◌, ◌^◌, ◌%◌, ◌-◌, List, [], length, map, get_or, replicate, false, true, not, cond, ltb, leb, eqb, Bool, ap, ap₂, ◌∙◌, sym, arith, w64, Vec, Global, vec_items, vec_len, refl, subst, add-one, ◌&&◌, inl, inr, zero, suc}
use lib.Lanes.{zip2, mask_l, top}
use mir.Val.{hbits, bits}
use Rattle.std.specs.List.{prefix_len}
use Rattle.std.proofs.lemmas.Simd.{bitmask_splat, first_set_mask_l}
use Rattle.std.proofs.lemmas.List.Sums.{prefix_len-le-length, prefix_len_passes, prefix_len_stops}
use Rattle.std.proofs.lemmas.Bool.{not-true, not-false, eqb-true, eq-eqb, ne_eqb, cases_eq, cases_lt, and_right, le-leb, lt-leb, lt-ltb, ltb-true, ltb-false}
use Rattle.std.proofs.lemmas.List.{get_or-map, get_or_past, get_or_default, length-map}
use Rattle.std.proofs.Math.Bool.{and-true}
use Rattle.spec_model.specs.Vectors.{IsAtMost}
use Rattle.dominance_lanes.specs.Columns.{row_at}
use Rattle.dominance_lanes.specs.Groups.{first_set, is_at_most_to, IsFirstZero, IsFirstBetween}

-- ---- the first lane that is 0

pub first_zero_is : (lanes : List ℕ) (r : ℕ) → length lanes ≡ 8 → r ≡ first_set (mask_l (map (top (hbits w64)) (zip2 (λ a b. cond (eqb a b) (2 ^ bits w64 - 1) 0) lanes (replicate 8 0))) % 2 ^ 64)
    8 → IsFirstZero lanes 8 r
first_zero_is lanes r long is =
    let p : ℕ → Bool = λ x. eqb x 0 in
    let count : r ≡ prefix_len (λ x. not (p x)) lanes = is ∙ ap (λ m. first_set m 8) (bitmask_splat w64 eqb lanes 8 0 long (omega arith)) ∙ first_set_mask_l p lanes 8 long (omega arith) in
    record {
      within = omega (arith, count, prefix_len-le-length (λ x. not (p x)) lanes);
      here = λ lt. let stop = prefix_len_stops (λ x. not (p x)) lanes 0 (omega (arith, count)) in
          eqb-true _ _ (not-false _ (subst (λ n. not (p (get_or lanes n 0)) ≡ false) (sym count) stop));
      before = λ i lt e. let pass = prefix_len_passes (λ x. not (p x)) lanes i 0 (omega (arith, count)) in
          (let no : p (get_or lanes i 0) ≡ false = not-true _ pass in let yes : p (get_or lanes i 0) ≡ true = eq-eqb _ _ e in absurd (cc));
    }

pub first_in_group : (p : ℕ → Bool) (lanes : List ℕ) (at r : ℕ) → ((i : ℕ) → i < 8 → eqb (get_or lanes i 0) 0 ≡ p (at + i)) → IsFirstZero lanes 8 r → r < 8 → IsFirstBetween p at (at + 8) (at + r)
first_in_group p lanes at r each first lt = record {
  from = omega arith;
  to = omega arith;
  here = sym (each r lt) ∙ eq-eqb _ _ (first.here lt);
  before = λ k from to.
      let place : at + (k - at) ≡ k = omega arith in
      ap p (sym place) ∙ sym (each (k - at) (omega arith)) ∙ ne_eqb _ _ (first.before (k - at) (omega arith));
}

-- ---- one place more

pub at_most_more : (n : ℕ) (u v : List ℕ) → is_at_most_to (n + 1) u v ≡ (is_at_most_to n u v && leb (get_or u n 0) (get_or v n 0))
at_most_more n u v = subst (λ m. is_at_most_to m u v ≡ (is_at_most_to n u v && leb (get_or u n 0) (get_or v n 0))) (sym (add-one n)) refl

-- a place at which the first is not above the second
pub goes_on : (n : ℕ) (u v : List ℕ) → ltb (get_or v n 0) (get_or u n 0) ≡ false → is_at_most_to (n + 1) u v ≡ is_at_most_to n u v
goes_on n u v le = at_most_more n u v ∙ ap (λ b. is_at_most_to n u v && b) (le-leb _ _ (ltb-false _ _ le)) ∙ and-true _

-- a place at which it is
pub stops : (n : ℕ) (u v : List ℕ) → ltb (get_or v n 0) (get_or u n 0) ≡ true → is_at_most_to (n + 1) u v ≡ false
stops n u v lt = at_most_more n u v ∙ and_right _ _ (lt-leb _ _ (ltb-true _ _ lt))

pub fails : (n j : ℕ) (u v : List ℕ) → j < n → ltb (get_or v j 0) (get_or u j 0) ≡ true → is_at_most_to n u v ≡ false
fails zero j u v h lt = absurd (omega arith)
fails (suc n) j u v h lt = elim (cases_eq j n) [
  | inl e ↦ subst (λ m. is_at_most_to m u v ≡ false) (add-one n) (stops n u v (subst (λ i. ltb (get_or v i 0) (get_or u i 0) ≡ true) e lt))
  | inr other ↦ ap (λ b. b && leb (get_or u n 0) (get_or v n 0)) (fails n j u v (omega arith) lt)
]

-- the lane of a place after one column more: it was as the first places say, and is 1 where the next one fails
lane_if : (b : Bool) (old n : ℕ) (u v : List ℕ) → ltb (get_or v n 0) (get_or u n 0) ≡ b → eqb old 0 ≡ is_at_most_to n u v → eqb (cond b 1 old) 0 ≡ is_at_most_to (n + 1) u v
lane_if true old n u v lt so = sym (stops n u v lt)
lane_if false old n u v lt so = so ∙ sym (goes_on n u v lt)

pub lane_more : (n lane old x y : ℕ) (u v : List ℕ) → lane ≡ cond (ltb y x) 1 old → get_or u n 0 ≡ x → get_or v n 0 ≡ y → eqb old 0 ≡ is_at_most_to n u v → eqb lane 0 ≡ is_at_most_to (n + 1) u v
lane_more n lane old x y u v is at_u at_v so = ap (λ l. eqb l 0) is ∙ lane_if (ltb y x) old n u v (ap₂ ltb at_v at_u) so

-- ---- the number of a vector in a column

pub row_reads : {X : Type 0} (f : X → List ℕ) (xs : List X) (j k : ℕ) (x : X) → j < length xs → x ≡ get_or xs j x → get_or (row_at (map f xs) k) j 0 ≡ get_or (f x) k 0
row_reads f xs j k x h e =
    get_or-map (λ column. get_or column k 0) (map f xs) j [] 0 (omega (arith, length-map xs f))
    ∙ ap (λ column. get_or column k 0) (get_or-map f xs j x [] h ∙ ap f (sym e))

pub read_at : (cs : List (Vec ℕ Global)) (j k : ℕ) (column : Vec ℕ Global) (x : ℕ) → j < length cs → column ≡ get_or cs j column → k < vec_len (get_or cs j column) → x ≡ get_or column.items k x
    → get_or (row_at (map vec_items cs) k) j 0 ≡ x
read_at cs j k column x h is room at =
    let long : k < vec_len column = subst (λ (c : Vec ℕ Global). k < vec_len c) (sym is) room in
    row_reads vec_items cs j k column h is ∙ sym (at ∙ get_or_default column.items k x 0 (omega (arith, column.ok.0)))

-- ---- the test says what it is to say

pub at_most_of : (n : ℕ) (u v : List ℕ) → is_at_most_to n u v ≡ true → length u ≤ n → IsAtMost u v
at_most_of n u v all short j = elim (cases_lt j n) [
  | inl within ↦ elim (cases_lt (get_or v j 0) (get_or u j 0)) [
    | inl above ↦ (let no = fails n j u v within (lt-ltb _ _ above) in absurd (cc))
    | inr le ↦ le
  ]
  | inr past ↦ omega (arith, get_or_past u j 0 (omega arith))
]

pub of_at_most : (n : ℕ) (u v : List ℕ) → IsAtMost u v → is_at_most_to n u v ≡ true
of_at_most zero u v le = refl
of_at_most (suc n) u v le = ap₂ (λ a b. a && b) (of_at_most n u v le) (le-leb (get_or u n 0) (get_or v n 0) (le n))
