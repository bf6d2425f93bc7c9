-- What looking a name up tells.
use Rattle.std.proofs.Common.{◌≡◌, ◌≢◌, ℕ, ◌<◌, false, List, [], ◌∷◌, length, get_or, refl, sym, arith, inl, inr, Contains}
use Rattle.std.specs.Str.{bytes_eq}
use Rattle.std.proofs.lemmas.Bool.{cases_Bool, lt-ltb, ltb-true}
use Rattle.std.proofs.lemmas.List.Sums.{passes_at_first}
use Rattle.std.proofs.lemmas.Slice.Eq.{bytes_eq-Decides}
use Rattle.line_words.specs.Rules.{Words}
use Rattle.names.specs.Names.{IsNumberOf, number_by_name}
use Rattle.spec_model.specs.Spec.{SpecValue, Name}
use Rattle.result_text.specs.Stating.{is_name, item_tests, misshapen}
use Rattle.result_text.specs.Claims.{Named}

-- a name that isn't there
pub unknown_is : (names : List Name) (word : List ℕ) → (Contains names word → ⊥) → is_name names word ≡ false
unknown_is names word none =
    elim (cases_Bool (is_name names word)) [
      | inl t ↦
          let n = number_by_name names word in
          let lt : n < length names = ltb-true n (length names) t in
          let same : word ≡ get_or names n word = (bytes_eq-Decides word (get_or names n word)).0 (passes_at_first (bytes_eq word) names word lt) in
          absurd (none (n, lt, sym same))
      | inr f ↦ f
    ]

-- a name that is there
pub known_is : (names : List Name) (word : List ℕ) (n : ℕ) → IsNumberOf names word n → Named names word n
known_is names word n h = record { known = lt-ltb (number_by_name names word) (length names) (omega (arith, h.within, h.first)); within = h.within; is = h.first }

pub ruleset found_steps = (unknown_is, known_is)

pub other_len : (s : SpecValue) (ws : Words) → length ws ≢ 2 → length ws ≢ 4 → length ws ≢ 5 → item_tests s ws ≡ misshapen
other_len s [] a b d = refl
other_len s (k ∷ []) a b d = refl
other_len s (k ∷ x ∷ []) a b d = absurd (a refl)
other_len s (k ∷ x ∷ y ∷ []) a b d = refl
other_len s (k ∷ x ∷ y ∷ z ∷ []) a b d = absurd (b refl)
other_len s (k ∷ x ∷ y ∷ z ∷ u ∷ []) a b d = absurd (d refl)
other_len s (k ∷ x ∷ y ∷ z ∷ u ∷ v ∷ more) a b d = refl
