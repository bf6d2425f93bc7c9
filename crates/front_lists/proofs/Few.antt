-- There are at most as many found entries as valid designs have vectors.
use Rattle.std.proofs.Common.{◌≡◌, ◌≢◌, ℕ, zero, suc, ◌+◌, ◌<◌, ◌≤◌, List, [], ◌∷◌, length, get_or, take, sym, ap, ◌∙◌, subst, arith}
use Rattle.std.specs.Prelude.{All, Contains}
use Rattle.std.proofs.lemmas.List.{length-map, length-take, get_or-map, get_or-take, get_or_default}
use Rattle.std.proofs.lemmas.List.Elements.{All-head, All-tail, Contains-get_or}
use Rattle.spec_model.specs.Spec.{SpecValue, bits_of}
use Rattle.spec_model.specs.Vectors.{vector_of, IsAtMost}
use Rattle.spec_model.specs.WellFormed.{AreDistinct}
use Rattle.result_text.specs.Answers.{EntryValue}
use Rattle.front_model.specs.Fronts.{vector_in}
use Rattle.spec_model.proofs.Vectors.{at_most_itself}
use Rattle.front_model.proofs.Exact.{before_all}
use Rattle.front_lists.specs.Lists.{IsNext, FoundPrefix, vectors_in}
use Rattle.front_lists.specs.Laws.{FoundAreFew}
use Rattle.front_lists.proofs.Kept.{vector_there}

-- ---- distinct vectors of a list are at most as many

abbrev removed : List (List ℕ) → ℕ → List (List ℕ)
removed [] k = []
removed (v ∷ vs) zero = vs
removed (v ∷ vs) (suc k) = v ∷ removed vs k

one_less : (vs : List (List ℕ)) (k : ℕ) → k < length vs → length (removed vs k) + 1 ≡ length vs
one_less [] k l = absurd (omega (arith, l))
one_less (v ∷ vs) zero l = omega arith
one_less (v ∷ vs) (suc k) l = omega (arith, one_less vs k (omega (arith, l)))

still : (vs : List (List ℕ)) (k : ℕ) (w : List ℕ) → Contains vs w → get_or vs k w ≢ w → Contains (removed vs k) w
still [] k w c n = absurd (let l = c.1 in omega arith)
still (v ∷ vs) zero w (zero, l, e) n = absurd (n e)
still (v ∷ vs) zero w (suc j, l, e) n = (j, omega (arith, l), e)
still (v ∷ vs) (suc k) w (zero, l, e) n = (0, omega arith, e)
still (v ∷ vs) (suc k) w (suc j, l, e) n = before_all v (removed vs k) w (still vs k w (j, omega (arith, l), e) n)

distinct_within : (us vs : List (List ℕ)) → AreDistinct us → All (Contains vs) us → length us ≤ length vs
distinct_within [] vs d h = omega arith
distinct_within (u ∷ us) vs d h =
    let c : Contains vs u = All-head (Contains vs) u us h in
    let rest : All (Contains (removed vs c.0)) us = λ j e l.
    (let w : List ℕ = get_or us j e in
    still vs c.0 w (All-tail (Contains vs) u us h j e l) (λ q. d 0 (suc j) e (omega arith) (omega (arith, l)) (sym c.2 ∙ (get_or_default vs c.0 u w c.1 ∙ q)))) in
    omega (arith, one_less vs c.0 c.1, distinct_within us (removed vs c.0) (λ i j e lt l q. d (suc i) (suc j) e (omega (arith, lt)) (omega (arith, l)) q) rest)

-- ---- the found vectors are distinct

-- no vector is found twice
pub found_distinct : (s : SpecValue) (found : List EntryValue) → FoundPrefix s found → AreDistinct (vectors_in found)
found_distinct s found p i j d lt l q =
    let len : length (vectors_in found) ≡ length found = length-map found vector_in in
    let none : EntryValue = record { design = []; vector = [] } in
    let lj : j < length found = omega (arith, l, len) in
    let li : i < length found = omega (arith, lj, lt) in
    let early : List EntryValue = take j found in
    let next : IsNext s (vectors_in early) (get_or found j none) = p j none lj in
    let inside : i < length early = omega (arith, lt, lj, length-take j found) in
    let e : EntryValue = get_or early i none in
    let there : Contains (vectors_in early) e.vector = vector_there early e (Contains-get_or early i none inside) in
    let ei : e.vector ≡ get_or (vectors_in found) i d = ap vector_in (get_or-take j found i none lt) ∙ sym (get_or-map vector_in found i none d li) in
    let ej : get_or (vectors_in found) j d ≡ (get_or found j none).vector = get_or-map vector_in found j none d lj in
    let same : e.vector ≡ vector_of s (bits_of (get_or found j none).design) = ei ∙ (q ∙ (ej ∙ sym next.stated)) in
    next.first.meets.uncovered (record { vector = e.vector; there = there; below = subst (IsAtMost e.vector) same (at_most_itself e.vector) })

-- no more entries are found than a list of all vectors has
pub found_are_few : FoundAreFew
found_are_few s found vs p all =
    let len : length (vectors_in found) ≡ length found = length-map found vector_in in
    let within : All (Contains vs) (vectors_in found) = λ k d l.
    (let none : EntryValue = record { design = []; vector = [] } in
    let lk : k < length found = omega (arith, l, len) in
    let next = p k none lk in
    let is : vector_of s (bits_of (get_or found k none).design) ≡ get_or (vectors_in found) k d = next.stated ∙ sym (get_or-map vector_in found k none d lk) in
    subst (Contains vs) is (all (bits_of (get_or found k none).design) next.first.meets.valid)) in
    omega (arith, len, distinct_within (vectors_in found) vs (found_distinct s found p) within)
