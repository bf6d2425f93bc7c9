-- Words whose weights the reader of the file tested.
use Rattle.std.proofs.Common.{◌≡◌, ℕ, ℤ, suc, ◌+◌, ◌≤◌, ◌^◌, Bool, true, false, cond, not, List, [], ◌∷◌, ◌++◌, get_or, map, Some, refl, sym, ap, subst, ◌∙◌, arith, All, Contains}
use Rattle.std.specs.Prelude.{is_none, ◌&&◌}
use Rattle.std.proofs.lemmas.List.{map-append}
use Rattle.std.proofs.lemmas.List.Elements.{Contains-append_left}
use Rattle.std.specs.List.{list_any}
use Rattle.std.specs.Option.{option_map_or}
use Rattle.std.specs.Str.{bytes_eq}
use Rattle.std.proofs.lemmas.Slice.Eq.{bytes_eq-Decides}
use Rattle.std.proofs.lemmas.Bool.{false≢true, false_from_ne_true, ltb-false}
use Rattle.std.proofs.lemmas.List.Folds.{list_any_at, Any-from_list_any}
use Rattle.names.specs.Names.{number_by_name}
use Rattle.spec_model.specs.Spec.{Name}
use Rattle.spec_model.specs.Limits.{most_number}
use Rattle.arch_reader.specs.Numbers.{at_scale}
use Rattle.arch_reader.specs.Tests.{objective_called, is_unknown_weight, is_big_weight, is_above_for, is_above, is_declared, is_unknown, is_unknown_key, is_unknown_place}
use Rattle.arch_reader.specs.declared.seen.Objective.{Objective as Declared}
use Rattle.arch_reader.specs.Words.{is_table_key}
use Rattle.arch_reader.specs.declared.statement.KeyAmount.{KeyAmount}
use Rattle.arch_reader.specs.declared.statement.KeyColumn.{KeyColumn}
use Rattle.spec_join.specs.Joining.{objective_name, objective_scale}
use Rattle.spec_join.specs.Fits.{IsWeighable, IsKnownKey, IsKnownPlace}

-- where no element passes, each fails
pub any_false : {X : Type 0} (p : X → Bool) (xs : List X) → list_any p xs ≡ false → All (λ x. p x ≡ false) xs
any_false p xs h = λ k d l. false_from_ne_true (p (get_or xs k d)) (λ e. false≢true (sym h ∙ list_any_at p xs k d l e))

-- names that are declared are there
pub declared_of : (names : List Name) (name : Name) → is_declared names name ≡ true → Contains names name
declared_of names name h =
    let a = Any-from_list_any (λ (n : Name). bytes_eq n name) names h in
    let e : a.1 ≡ name = (bytes_eq-Decides a.1 name).0 a.4 in
    subst (Contains names) e (a.0, a.2, a.3)

pub not_declared : (names : List Name) (name : Name) → is_declared names name ≡ false → Contains names name → ⊥
not_declared names name h c =
    let e : bytes_eq (get_or names c.0 name) name ≡ true = (bytes_eq-Decides (get_or names c.0 name) name).1 c.2 in
    false≢true (sym h ∙ list_any_at (λ (n : Name). bytes_eq n name) names c.0 name c.1 e)

-- an amount that isn't above is at most the greatest
pub not_above : (scale : ℕ) (amount : ℤ) → is_above scale amount ≡ false → at_scale scale amount ≤ 2 ^ 40
not_above scale amount h = ltb-false most_number (at_scale scale amount) h

-- a key among objectives, and the amount at the scale of the first one of that name
record IsFound (os : List Declared) (key : Name) (amount : ℤ) : Type 0 where
  known : Contains (map objective_name os) key
  small : at_scale (get_or (map objective_scale os) (number_by_name (map objective_name os) key) 0) amount ≤ 2 ^ 40

here : (o : Declared) (os : List Declared) (key : Name) (amount : ℤ) → bytes_eq o.name key ≡ true → is_above o.scale amount ≡ false → IsFound (o ∷ os) key amount
here o os key amount e h =
    let same : o.name ≡ key = (bytes_eq-Decides o.name key).0 e in
    let t : bytes_eq key o.name ≡ true = (bytes_eq-Decides key o.name).1 (sym same) in
    let n : number_by_name (map objective_name (o ∷ os)) key ≡ 0 = ap (λ (b : Bool). cond (not b) (1 + number_by_name (map objective_name os) key) 0) t in
    record {
      known = (0, omega arith, same);
      small = subst (λ (k : ℕ). at_scale (get_or (map objective_scale (o ∷ os)) k 0) amount ≤ 2 ^ 40) (sym n) (not_above o.scale amount h);
    }

further : (o : Declared) (os : List Declared) (key : Name) (amount : ℤ) → bytes_eq o.name key ≡ false → IsFound os key amount → IsFound (o ∷ os) key amount
further o os key amount e f =
    let t : bytes_eq key o.name ≡ false = false_from_ne_true (bytes_eq key o.name) (λ x. false≢true (sym e ∙ (bytes_eq-Decides o.name key).1 (sym ((bytes_eq-Decides key o.name).0 x)))) in
    let m : ℕ = number_by_name (map objective_name os) key in
    let n : number_by_name (map objective_name (o ∷ os)) key ≡ 1 + m = ap (λ (b : Bool). cond (not b) (1 + m) 0) t in
    let up : 1 + m ≡ suc m = omega arith in
    record {
      known = (suc f.known.0, omega (arith, f.known.1), f.known.2);
      small = subst (λ (k : ℕ). at_scale (get_or (map objective_scale (o ∷ os)) k 0) amount ≤ 2 ^ 40) (sym (n ∙ up)) f.small;
    }

abbrev called : List Declared → Name → ℤ → Bool
called os key amount = option_map_or (is_above_for amount) (objective_called os key) false

found_by : (o : Declared) (os later : List Declared) (key : Name) (amount : ℤ) → (is_none (objective_called os key) ≡ false → called os key amount ≡ false → IsFound (os ++ later) key amount)
    → (b : Bool) → bytes_eq o.name key ≡ b
    → is_none (objective_called (o ∷ os) key) ≡ false → called (o ∷ os) key amount ≡ false → IsFound (o ∷ (os ++ later)) key amount
found_by o os later key amount ih true e u a = here o (os ++ later) key amount e (ap (λ (b : Bool). option_map_or (is_above_for amount) (cond b (Some o) (objective_called os key)) false) (sym e) ∙ a)
found_by o os later key amount ih false e u a = further o (os ++ later) key amount e (ih
    (ap (λ (b : Bool). is_none (cond b (Some o) (objective_called os key))) (sym e) ∙ u)
    (ap (λ (b : Bool). option_map_or (is_above_for amount) (cond b (Some o) (objective_called os key)) false) (sym e) ∙ a))

found : (os later : List Declared) (key : Name) (amount : ℤ) → is_none (objective_called os key) ≡ false → called os key amount ≡ false → IsFound (os ++ later) key amount
found [] later key amount u a = absurd (false≢true (sym u))
found (o ∷ os) later key amount u a = found_by o os later key amount (found os later key amount) (bytes_eq o.name key) refl u a

pub weighable : (os later : List Declared) (names : List Name) (scales : List ℕ) (ws : List KeyAmount) → names ≡ map objective_name (os ++ later) → scales ≡ map objective_scale (os ++ later)
    → list_any (is_unknown_weight os) ws ≡ false → list_any (is_big_weight os) ws ≡ false → All (IsWeighable names scales) ws
weighable os later names scales ws en es u b = λ k d l. one (get_or ws k d) (any_false (is_unknown_weight os) ws u k d l) (any_false (is_big_weight os) ws b k d l)
  where
    one : (w : KeyAmount) → is_unknown_weight os w ≡ false → is_big_weight os w ≡ false → IsWeighable names scales w
    one w x y =
        let f = found os later w.key w.amount x y in
        subst (λ (ns : List Name). IsWeighable ns scales w) (sym en) (subst (λ (cs : List ℕ). IsWeighable (map objective_name (os ++ later)) cs w) (sym es)
        (record { known = f.known; small = f.small }))

-- ---- the keys of a table line

known_in : (os : List Declared) (key : Name) → is_unknown os key ≡ false → Contains (map objective_name os) key
known_in [] key h = absurd (false≢true (sym h))
known_in (o ∷ os) key h = known_by o os key (known_in os key) (bytes_eq o.name key) refl h
  where
    known_by : (o : Declared) (os : List Declared) (key : Name) → (is_unknown os key ≡ false → Contains (map objective_name os) key) → (b : Bool) → bytes_eq o.name key ≡ b
        → is_unknown (o ∷ os) key ≡ false → Contains (map objective_name (o ∷ os)) key
    known_by o os key ih true e u = (0, omega arith, (bytes_eq-Decides o.name key).0 e)
    known_by o os key ih false e u =
        let c = ih (ap (λ (b : Bool). is_none (cond b (Some o) (objective_called os key))) (sym e) ∙ u) in
        (suc c.0, omega (arith, c.1), c.2)

-- a name that is no objective's so far may be one later, but one that is stays so
known_later : (os later : List Declared) (names : List Name) (key : Name) → names ≡ map objective_name (os ++ later) → is_unknown os key ≡ false → Contains names key
known_later os later names key e h =
    let c = known_in os key h in
    subst (λ (ns : List Name). Contains ns key) (sym (e ∙ map-append objective_name os later)) (Contains-append_left (map objective_name os) (map objective_name later) key c)

not_both : (a b : Bool) → (not a && b) ≡ false → a ≡ false → b ≡ false
not_both true b h e = absurd (false≢true (sym e))
not_both false b h e = h

pub known_keys : (os later : List Declared) (names : List Name) (keys : List KeyColumn) → names ≡ map objective_name (os ++ later) → list_any (is_unknown_key os) keys ≡ false
    → All (IsKnownKey names) keys
known_keys os later names keys e h =
    λ k d l t. known_later os later names (get_or keys k d).key e (not_both (is_table_key (get_or keys k d).key) (is_unknown os (get_or keys k d).key) (any_false (is_unknown_key os) keys h k d l) t)

pub known_places : (os later : List Declared) (names : List Name) (places : List KeyColumn) → names ≡ map objective_name (os ++ later) → list_any (is_unknown_place os) places ≡ false
    → All (IsKnownPlace names) places
known_places os later names places e h = λ k d l. known_later os later names (get_or places k d).key e (any_false (is_unknown_place os) places h k d l)
