-- There is one found list.
use Rattle.std.proofs.Common.{◌≡◌, ℕ, zero, suc, ◌+◌, ◌<◌, ◌≤◌, Bool, List, [], ◌∷◌, ◌++◌, length, get_or, take, refl, sym, ap, ap₂, ◌∙◌, subst, arith, inl, inr}
use Rattle.std.proofs.lemmas.Bool.{cases_lt}
use Rattle.std.proofs.lemmas.List.{take_more, take_all}
use Rattle.spec_model.specs.Spec.{SpecValue, bits_of, design_variables}
use Rattle.spec_model.specs.Vectors.{vector_of}
use Rattle.spec_model.specs.Genotypes.{natural}
use Rattle.spec_model.proofs.Ones.{first_is_one}
use Rattle.result_text.specs.Answers.{EntryValue}
use Rattle.front_lists.specs.Lists.{IsNext, FoundPrefix, vectors_in, IsLeft}
use Rattle.front_lists.specs.Laws.{FoundIsOne, WholeIsLongest}

-- ---- one entry is found next

same_entry : (d e : EntryValue) → d.design ≡ e.design → d.vector ≡ e.vector → d ≡ e
same_entry d e p q = ap₂ (λ (bits : List Bool) (numbers : List ℕ). record { design = bits; vector = numbers }) p q

next_is_one : (s : SpecValue) (us : List (List ℕ)) (d e : EntryValue) → IsNext s us d → IsNext s us e → d ≡ e
next_is_one s us d e a b = same_entry d e designs (sym a.stated ∙ (ap (λ (bits : List Bool). vector_of s (bits_of bits)) designs ∙ b.stated))
  where
    designs : d.design ≡ e.design
    designs = first_is_one (IsLeft s us) (design_variables s) (natural (design_variables s)) d.design e.design a.one_each b.one_each a.first b.first

-- ---- one found list

none_of : EntryValue
none_of = record { design = []; vector = [] }

fronts_same : (s : SpecValue) (found more : List EntryValue) → FoundPrefix s found → FoundPrefix s more → length found ≤ length more → (n : ℕ) → n ≤ length found → take n found ≡ take n more
fronts_same s found more p q le zero l = refl
fronts_same s found more p q le (suc n) l =
    let ih = fronts_same s found more p q le n (omega (arith, l)) in
    let lf : n < length found = omega (arith, l) in
    let lm : n < length more = omega (arith, l, le) in
    let next : IsNext s (vectors_in (take n found)) (get_or more n none_of) = subst (λ (es : List EntryValue). IsNext s (vectors_in es) (get_or more n none_of)) (sym ih) (q n none_of lm) in
    let one : get_or found n none_of ≡ get_or more n none_of = next_is_one s (vectors_in (take n found)) (get_or found n none_of) (get_or more n none_of) (p n none_of lf) next in
    let e : suc n ≡ n + 1 = omega arith in
    let tf : take (n + 1) found ≡ take n found ++ get_or found n none_of ∷ [] = take_more found n none_of lf in
    let tm : take (n + 1) more ≡ take n more ++ get_or more n none_of ∷ [] = take_more more n none_of lm in
    ap (λ (k : ℕ). take k found) e ∙ (tf ∙ (ap₂ (λ (es : List EntryValue) (x : EntryValue). es ++ x ∷ []) ih one ∙ (sym tm ∙ sym (ap (λ (k : ℕ). take k more) e))))

pub found_is_one : FoundIsOne
found_is_one s found more p q le =
    sym (take_all (length found) found (omega arith)) ∙ fronts_same s found more p q le (length found) (omega arith)

pub whole_is_longest : WholeIsLongest
whole_is_longest s whole found w p =
    elim (cases_lt (length whole) (length found)) [
      | inr le ↦ le
      | inl longer ↦
          let same : whole ≡ take (length whole) found = found_is_one s whole found w.prefix p (omega (arith, longer)) in
          let next : IsNext s (vectors_in whole) (get_or found (length whole) none_of) = subst (λ (es : List EntryValue). IsNext s (vectors_in es) (get_or found (length whole) none_of)) (sym same)
          (p (length whole) none_of longer) in
          absurd (w.none_left (bits_of (get_or found (length whole) none_of).design) next.first.meets)
    ]
