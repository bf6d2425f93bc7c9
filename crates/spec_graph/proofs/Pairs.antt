-- Options, and the list of their pairs.
use Rattle.std.proofs.Common.{◌≡◌, ℕ, ◌<◌, List, [], ◌∷◌, ◌++◌, length, get_or, map, sym, ap, ◌∙◌, arith}
use Rattle.std.specs.Prelude.{Any, IsTrue, ◌↔◌, Bool, true, false, ◌&&◌, ◌==◌, if◌then◌else◌}
use Rattle.std.specs.List.{list_any}
use Rattle.std.proofs.lemmas.List.{get_or-map, length-map, map-append}
use Rattle.std.proofs.lemmas.List.Folds.{Any-from_list_any, list_any_at}
use Rattle.std.proofs.lemmas.Bool.{eqb-true, eq-eqb, false_from_ne_true, and_parts}
use Rattle.std.specs.Cmp.Derive.{both_true}
use Rattle.spec_model.specs.Spec.{Choice as Value}
use Rattle.spec_graph.specs.Lists.{choice_value, choice_pair}
use Rattle.spec_graph.specs.Refusals.{IsOfPair}
use Rattle.spec_graph.specs.declared.numbers.Choice.{Choice}
use Rattle.spec_graph.proofs.Mapped.{any_here}

-- a pair is this one
abbrev is_pair : ℕ → ℕ → ℕ × ℕ → Bool
is_pair task resource p = (task == p.0) && (resource == p.1)

no_choice : Choice
no_choice = record { task = record { 0 = 0 }; resource = record { 0 = 0 }; time = 0 }

found : (xs : List Choice) (t r : ℕ) → list_any (is_pair t r) (map choice_pair xs) ≡ true → Any (IsOfPair t r) (map choice_value xs)
found xs t r e =
    let h = Any-from_list_any (is_pair t r) (map choice_pair xs) e in
    let l : h.0 < length xs = omega (arith, h.2, length-map xs choice_pair) in
    let same : choice_pair (get_or xs h.0 no_choice) ≡ h.1 = sym (get_or-map choice_pair xs h.0 no_choice h.1 l) ∙ h.3 in
    let both = and_parts (t == h.1.0) (r == h.1.1) h.4 in
    any_here choice_value (IsOfPair t r) xs h.0 no_choice l (ap (λ (p : ℕ × ℕ). p.0) same ∙ sym (eqb-true t h.1.0 both.0), ap (λ (p : ℕ × ℕ). p.1) same ∙ sym (eqb-true r h.1.1 both.1))

stands : (xs : List Choice) (t r : ℕ) → Any (IsOfPair t r) (map choice_value xs) → list_any (is_pair t r) (map choice_pair xs) ≡ true
stands xs t r h =
    let l : h.0 < length xs = omega (arith, h.2, length-map xs choice_value) in
    let value : choice_value (get_or xs h.0 no_choice) ≡ h.1 = sym (get_or-map choice_value xs h.0 no_choice h.1 l) ∙ h.3 in
    let pair = get_or-map choice_pair xs h.0 no_choice (0, 0) l in
    let task : t ≡ (get_or (map choice_pair xs) h.0 (0, 0)).0 = sym (ap (λ (p : ℕ × ℕ). p.0) pair ∙ (ap (λ (o : Value). o.task) value ∙ h.4.0)) in
    let resource : r ≡ (get_or (map choice_pair xs) h.0 (0, 0)).1 = sym (ap (λ (p : ℕ × ℕ). p.1) pair ∙ (ap (λ (o : Value). o.resource) value ∙ h.4.1)) in
    list_any_at (is_pair t r) (map choice_pair xs) h.0 (0, 0) (omega (arith, l, length-map xs choice_pair)) (both_true (eq-eqb t _ task) (eq-eqb r _ resource))

-- a pair has an option exactly where it is among the options' pairs
pub tells : (xs : List Choice) (ps : List (ℕ × ℕ)) (t r : ℕ) (b : Bool) → ps ≡ map choice_pair xs → b ≡ list_any (is_pair t r) ps → IsTrue b ↔ Any (IsOfPair t r) (map choice_value xs)
tells xs ps t r b e eb =
    let at : b ≡ list_any (is_pair t r) (map choice_pair xs) = eb ∙ ap (list_any (is_pair t r)) e in
    (λ h. found xs t r (sym at ∙ h), λ h. at ∙ stands xs t r h)

-- one option more, of a pair that isn't among them
pub pairs_after : (xs ys : List Choice) (c : Choice) (ps qs : List (ℕ × ℕ)) → ps ≡ map choice_pair xs → (Any (IsOfPair c.task.0 c.resource.0) (map choice_value xs) → ⊥)
    → qs ≡ (if list_any (is_pair c.task.0 c.resource.0) ps then ps else ps ++ choice_pair c ∷ []) → ys ≡ xs ++ c ∷ [] → qs ≡ map choice_pair ys
pairs_after xs ys c ps qs e new eq ey =
    let none : list_any (is_pair c.task.0 c.resource.0) ps ≡ false = false_from_ne_true _ (λ h. new (found xs c.task.0 c.resource.0 (sym (ap (list_any (is_pair c.task.0 c.resource.0)) e) ∙ h))) in
    eq ∙ ap (λ (b : Bool). if b then ps else ps ++ choice_pair c ∷ []) none ∙ ap (λ (zs : List (ℕ × ℕ)). zs ++ choice_pair c ∷ []) e ∙ sym (map-append choice_pair xs (c ∷ []))
    ∙ sym (ap (map choice_pair) ey)
