-- A place stands once in a rising list.
use Rattle.std.proofs.Common.{◌≡◌, ◌≢◌, ℕ, zero, suc, ◌+◌, ◌*◌, ◌<◌, List, [], ◌∷◌, get_or, cond, eqb, Bool, inl, inr, ◌∙◌, ap, refl, arith}
use Rattle.std.proofs.lemmas.Bool.Decides.{eqb_tells}
use Rattle.std.proofs.lemmas.List.Sums.{sum_by-cons}
use Rattle.evo_explore.specs.Counts.{times}
use Rattle.evo_explore.specs.Laws.{ChosenOnce, OthersNever, RoomForRising}

times_cons : (k p : ℕ) (ps : List ℕ) → times k (p ∷ ps) ≡ cond (eqb p k) 1 0 + times k ps
times_cons k p ps = sum_by-cons (λ p. cond (eqb p k) 1 0) p ps

times_here : (k p : ℕ) (ps : List ℕ) → p ≡ k → times k (p ∷ ps) ≡ 1 + times k ps
times_here k p ps is = elim (eqb_tells p k) [
  | inl y ↦ times_cons k p ps ∙ ap (λ (b : Bool). cond {A = ℕ} b 1 0 + times k ps) y.0
  | inr n ↦ absurd (n.1 is)
]

times_there : (k p : ℕ) (ps : List ℕ) → p ≢ k → times k (p ∷ ps) ≡ times k ps
times_there k p ps differs = elim (eqb_tells p k) [
  | inl y ↦ absurd (differs y.1)
  | inr n ↦ times_cons k p ps ∙ (ap (λ (b : Bool). cond {A = ℕ} b 1 0 + times k ps) n.0 ∙ omega arith)
]

pub others_never : OthersNever
others_never [] k none = refl
others_never (p ∷ ps) k none = times_there k p ps (none 0 (omega arith)) ∙ others_never ps k (λ i l. none (suc i) (omega (arith, l)))

pub chosen_once : ChosenOnce
chosen_once [] i rising l = absurd (omega (arith, l))
chosen_once (p ∷ ps) zero rising l =
    let none : times p ps ≡ 0 = others_never ps p (λ i k same. let above : p < get_or ps i 0 = rising 0 (suc i) (omega arith) (omega (arith, k)) in omega (arith, above, same)) in
    times_here p p ps refl ∙ omega (arith, none)
chosen_once (p ∷ ps) (suc i) rising l =
    let above : p < get_or ps i 0 = rising 0 (suc i) (omega arith) l in
    times_there (get_or ps i 0) p ps (λ same. omega (arith, above, same))
    ∙ chosen_once ps i (λ j k below within. rising (suc j) (suc k) (omega (arith, below)) (omega (arith, within))) (omega (arith, l))

pub room_for_rising : RoomForRising
room_for_rising rounds chosen counts rising room i l =
    let once : times (get_or chosen i 0) chosen ≡ 1 = chosen_once chosen i rising l in
    let all : rounds * times (get_or chosen i 0) chosen ≡ rounds = ap (λ (n : ℕ). rounds * n) once ∙ omega arith in
    omega (arith, all, room i l)
