-- Names, and the strings that hold them.
use Rattle.std.proofs.Common.{◌≡◌, ℕ, zero, suc, ◌+◌, ◌<◌, ◌≤◌, Bool, true, false, cond, not, List, [], ◌∷◌, ◌++◌, length, get_or, map, arith, refl, sym, ◌∙◌, ap, subst, All, Contains, Option, Some, None, ◌⊎◌, inl, inr, String, Global}
use Rattle.std.specs.Prelude.{MatchOption, nat_lt, if◌then◌else◌, ◌||◌}
use Rattle.std.specs.List.{position_or_len, position, list_any, prefix_len}
use Rattle.std.specs.String.{string_bytes, string_eq}
use Rattle.std.specs.Str.{bytes_eq}
use Rattle.std.proofs.lemmas.Slice.Eq.{bytes_eq-Decides}
use Rattle.std.proofs.lemmas.List.{length-map, map-append, get_or_default}
use Rattle.std.proofs.lemmas.List.Sums.{prefix_len_passes}
use Rattle.std.proofs.lemmas.List.Folds.{list_any_none}
use Rattle.std.proofs.lemmas.List.Quantifiers.{position-Some}
use Rattle.std.proofs.lemmas.Bool.{cases_lt, lt-ltb, le-ltb, false≢true, false_from_ne_true}
use Rattle.names.specs.Names.{IsNumberOf}

abbrev Text : Type 0
Text = String Global

abbrev test : List ℕ → Text → Bool
test name k = bytes_eq name (string_bytes k)

pol_map : (name : List ℕ) (ks : List Text) → position_or_len (test name) ks ≡ position_or_len (bytes_eq name) (map string_bytes ks)
pol_map name [] = refl
pol_map name (k ∷ ks) = ap (λ (n : ℕ). cond (not (bytes_eq name (string_bytes k))) (1 + n) 0) (pol_map name ks)

position_map : (name : List ℕ) (ks : List Text) → position (test name) ks ≡ position (bytes_eq name) (map string_bytes ks)
position_map name ks =
    ap (λ (n : ℕ). cond (nat_lt n (length ks)) (Some n) None) (pol_map name ks)
    ∙ ap (λ (l : ℕ). cond (nat_lt (position_or_len (bytes_eq name) (map string_bytes ks)) l) (Some (position_or_len (bytes_eq name) (map string_bytes ks))) None) (sym (length-map ks string_bytes))

-- the first place of a name, or none where it is not there
find_in : (names : List (List ℕ)) (name : List ℕ) → MatchOption (position (bytes_eq name) names) (Contains names name → ⊥) (IsNumberOf names name)
find_in names name = go (cases_lt n (length names))
  where
    n : ℕ
    n = position_or_len (bytes_eq name) names

    not_there : Contains names name → length names ≤ n → ⊥
    not_there h l =
        let p = prefix_len_passes (λ (x : List ℕ). not (bytes_eq name x)) names h.0 name (omega (arith, h.1, l)) in
        let t : bytes_eq name (get_or names h.0 name) ≡ true = (bytes_eq-Decides name (get_or names h.0 name)).1 (sym h.2) in
        false≢true (ap not (sym t) ∙ p)

    go : (n < length names) ⊎ (length names ≤ n) → MatchOption (position (bytes_eq name) names) (Contains names name → ⊥) (IsNumberOf names name)
    go (inl l) =
        let e : position (bytes_eq name) names ≡ Some n = ap (λ (b : Bool). cond b (Some n) None) (lt-ltb n (length names) l) in
        let p = position-Some (bytes_eq name) names n [] e in
        subst (λ (r : Option ℕ). MatchOption r (Contains names name → ⊥) (IsNumberOf names name)) (sym e)
        (record { within = l; same = sym ((bytes_eq-Decides name (get_or names n [])).0 p.1); first = refl })
    go (inr l) =
        let e : position (bytes_eq name) names ≡ None = ap (λ (b : Bool). cond b (Some n) None) (le-ltb n (length names) l) in
        subst (λ (r : Option ℕ). MatchOption r (Contains names name → ⊥) (IsNumberOf names name)) (sym e) (λ h. not_there h l)

-- the place that is found is the number of the name
pub find_at : (ks : List Text) (name : List ℕ) (r : Option ℕ) (names : List (List ℕ)) → r ≡ position (test name) ks → map string_bytes ks ≡ names
    → MatchOption r (Contains names name → ⊥) (IsNumberOf names name)
find_at ks name r names e en =
    let P : List (List ℕ) → Type 0 = λ xs. MatchOption r (Contains xs name → ⊥) (IsNumberOf xs name) in
    let Q : Option ℕ → Type 0 = λ s. MatchOption s (Contains (map string_bytes ks) name → ⊥) (IsNumberOf (map string_bytes ks) name) in
    subst P en (subst Q (sym (e ∙ position_map name ks)) (find_in (map string_bytes ks) name))

any_map : (t : Text) (ks : List Text) → list_any (string_eq t) ks ≡ list_any (bytes_eq (string_bytes t)) (map string_bytes ks)
any_map t [] = refl
any_map t (k ∷ ks) = ap (λ (b : Bool). string_eq t k || b) (any_map t ks)

-- a name that isn't there stands behind the others
pub add_at : (ks ls : List Text) (t : Text) (name : List ℕ) (names : List (List ℕ)) → ls ≡ (if list_any (string_eq t) ks then ks else ks ++ t ∷ []) → string_bytes t ≡ name
    → map string_bytes ks ≡ names → (Contains names name → ⊥) → map string_bytes ls ≡ names ++ name ∷ []
add_at ks ls t name names e et en h =
    ap (map string_bytes) (e ∙ ap (λ (b : Bool). if b then ks else ks ++ t ∷ []) none) ∙ map-append string_bytes ks (t ∷ []) ∙ ap (λ (xs : List (List ℕ)). xs ++ string_bytes t ∷ []) en
    ∙ ap (λ (x : List ℕ). names ++ x ∷ []) et
  where
    away : All (λ x. bytes_eq name x ≡ false) names
    away = λ k d l. false_from_ne_true (bytes_eq name (get_or names k d)) (λ y. h (k, l, get_or_default names k name d l ∙ sym ((bytes_eq-Decides name (get_or names k d)).0 y)))

    none : list_any (string_eq t) ks ≡ false
    none = any_map t ks ∙ ap (λ (xs : List (List ℕ)). list_any (bytes_eq (string_bytes t)) xs) en ∙ ap (λ (x : List ℕ). list_any (bytes_eq x) names) et ∙ list_any_none (bytes_eq name) names away
