-- Cutting down in place: all terms fall away at a degree of 0, and none of a positive coefficient does else.
use Rattle.std.proofs.Common.{◌≡◌, ◌<◌, ◌++◌, ◌∙◌, ap, arith, ℕ, List, [], ◌∷◌, map, min, true, false, ltb, refl, length, take, drop, suc}
use Rattle.std.specs.Prelude.{All}
use Rattle.std.proofs.lemmas.Bool.Decides.{nat_tests}
use Rattle.std.proofs.lemmas.List.{append-nil, take_all, length-map}
use Rattle.std.proofs.Math.ListN.{drop_of_length-le}
use Rattle.pb_rules.specs.declared.Term.{Term}
use Rattle.pb_rules.specs.CuttingPlanes.{cut}
use Rattle.cutting_planes.specs.Lowered.{lowered}

pub cut-zero : (ts : List Term) → cut 0 ts ≡ []
cut-zero [] = refl
cut-zero (t ∷ ts) =
    let test : ltb 0 (min t.coef 0) ≡ false = grind (arith, nat_tests) in
    rw test (cut-zero ts)

pub cut-lowered : (d : ℕ) (ts : List Term) → 0 < d → All (λ t. 0 < t.coef) ts → map (lowered d) ts ≡ cut d ts
cut-lowered d [] p h = refl
cut-lowered d (t ∷ ts) p h =
    let n = h 0 t (omega arith) in
    let test : ltb 0 (min t.coef d) ≡ true = grind (arith, nat_tests) in
    let ih = cut-lowered d ts p (λ k e q. h (suc k) e (omega arith)) in
    rw test (ap (λ (us : List Term). lowered d t ∷ us) ih)

-- a vector after all of it was written through its slice
pub written_map : (f : Term → Term) (n : ℕ) (now old : List Term) → now ≡ map f old → length old ≡ n → take n (now ++ drop (length now) old) ≡ map f old
written_map f n now old e len =
    let same : length now ≡ length old = ap length e ∙ length-map old f in
    let none = drop_of_length-le old {i = length now} (omega arith) in
    let whole : now ++ drop (length now) old ≡ now = ap (λ (us : List Term). now ++ us) none ∙ append-nil now in
    ap (take n) whole ∙ take_all n now (omega arith) ∙ e
