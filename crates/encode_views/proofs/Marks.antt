-- Rows of bits that a scan marks, one number at a time.
use Rattle.std.proofs.Common.{◌≡◌, ℕ, zero, suc, ◌+◌, ◌<◌, Bool, true, false, cond, List, length, get_or, set, replicate, nat_eq, refl, sym, ap, ◌∙◌, subst, arith, add-one, ◌⊎◌, inl, inr}
use Rattle.std.specs.Prelude.{map}
use Rattle.std.proofs.lemmas.List.{ext_get_or, get_or-set_same, get_or-set_other, length-set, length-replicate, get_or-replicate}
use Rattle.std.proofs.lemmas.List.FromFn.{get_or-map-range_with_len, length-map-range_with_len}
use Rattle.std.proofs.lemmas.Bool.Decides.{nat_tests}
use Rattle.spec_model.specs.Spec.{below}
use Rattle.spec_model.specs.Walks.{some_passes}

-- the bit of each place below n says whether some number below k passes there
pub record IsMarked (n : ℕ) (p : ℕ → ℕ → Bool) (k : ℕ) (row : List Bool) : Type 0 where
  pub places : length row ≡ n
  pub marks : (r : ℕ) → r < n → get_or row r false ≡ some_passes (p r) k

pub unmarked : (n : ℕ) (p : ℕ → ℕ → Bool) (row : List Bool) → row ≡ replicate n false → IsMarked n p 0 row
unmarked n p row e = record {
  places = ap length e ∙ length-replicate n false;
  marks = λ r l. ap (λ (xs : List Bool). get_or xs r false) e ∙ get_or-replicate n r false false l;
}

one_more : (p : ℕ → Bool) (k : ℕ) → some_passes p (k + 1) ≡ cond (p k) true (some_passes p k)
one_more p k = subst (λ (i : ℕ). some_passes p i ≡ cond (p k) true (some_passes p k)) (sym (add-one k)) refl

-- the next number passes at one place alone
pub marked : (n : ℕ) (p : ℕ → ℕ → Bool) (k h : ℕ) (row next : List Bool) → IsMarked n p k row → h < n → ((r : ℕ) → p r k ≡ nat_eq h r) → next ≡ set row h true → IsMarked n p (k + 1) next
marked n p k h row next x l here e = record {
  places = ap length e ∙ (length-set row h true ∙ x.places);
  marks = λ r lr. ap (λ (xs : List Bool). get_or xs r false) e ∙ (at r lr (nat_eq h r) refl ∙ sym (one_more (p r) k ∙ ap (λ (b : Bool). cond b true (some_passes (p r) k)) (here r)));
}
  where
    at : (r : ℕ) → r < n → (b : Bool) → nat_eq h r ≡ b → get_or (set row h true) r false ≡ cond (nat_eq h r) true (some_passes (p r) k)
    at r lr true t =
        let same : r ≡ h = grind (arith, nat_tests, t) in
        ap (λ (i : ℕ). get_or (set row h true) i false) same ∙ (get_or-set_same row h true false (omega (arith, x.places)) ∙ sym (ap (λ (b : Bool). cond b true (some_passes (p r) k)) t))
    at r lr false t =
        let other : r ≡ h → ⊥ = λ same. grind (arith, nat_tests, t, same) in
        get_or-set_other row h r true false other ∙ (x.marks r lr ∙ sym (ap (λ (b : Bool). cond b true (some_passes (p r) k)) t))

-- the next number passes nowhere
pub passed : (n : ℕ) (p : ℕ → ℕ → Bool) (k : ℕ) (row : List Bool) → IsMarked n p k row → ((r : ℕ) → p r k ≡ false) → IsMarked n p (k + 1) row
passed n p k row x none = record {
  places = x.places;
  marks = λ r lr. x.marks r lr ∙ sym (one_more (p r) k ∙ ap (λ (b : Bool). cond b true (some_passes (p r) k)) (none r));
}

-- a row as a list
pub row_of : (n : ℕ) (p : ℕ → ℕ → Bool) (k j : ℕ) (row : List Bool) → IsMarked n p k row → k ≡ j → row ≡ map (λ r. some_passes (p r) j) (below n)
row_of n p k j row x e =
    ext_get_or false row (map (λ r. some_passes (p r) j) (below n)) (x.places ∙ sym (length-map-range_with_len (λ r. some_passes (p r) j) 0 n))
    (λ r l. (let lr : r < n = omega (arith, l, x.places) in x.marks r lr ∙ (ap (some_passes (p r)) e ∙ sym (get_or-map-range_with_len (λ r. some_passes (p r) j) 0 n r r false lr (omega arith)))))
