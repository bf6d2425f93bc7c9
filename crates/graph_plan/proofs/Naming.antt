-- The names that names of graphs have in a plan: which are new, and that each is one word.
use Rattle.std.proofs.Common.{◌≡◌, ℕ, ◌<◌, ◌≤◌, ◌^◌, true, leb, List, [], ◌∷◌, ◌++◌, length, take, get_or, map, refl, sym, ap, subst, ◌∙◌, arith, inl, inr, Contains, length-append, Result, Ok, Err}
use Rattle.std.specs.Prelude.{decimal, IfOk, not, ◌==◌}
use Rattle.std.specs.List.{list_all}
use Rattle.std.specs.Char.{is_ascii_digit}
use Rattle.std.proofs.lemmas.Bool.{leb-true, le-leb, and_parts, and_from}
use Rattle.std.proofs.lemmas.Fmt.{digits_decimal, decimal_nonempty, decimal_injective}
use Rattle.std.proofs.lemmas.List.{get_or-map, get_or-take, length-map, length-take-le}
use Rattle.std.proofs.lemmas.List.Elements.{Contains-append_cases}
use Rattle.std.proofs.lemmas.List.Folds.{list_all-append}
use Rattle.line_words.specs.Text.{is_word_byte}
use Rattle.line_words.proofs.Digits.{own}
use Rattle.names.specs.Names.{IsName, is_name_byte}
use Rattle.spec_model.specs.Spec.{Name}
use Rattle.spec_model.specs.WellFormed.{AreDistinct}
use Rattle.file_bricks.specs.Words.{IsWord}
use Rattle.graph_plan.specs.Graphs.{name_in}
use Rattle.graph_plan.specs.Room.{AreNew}

-- ---- each name is one word

digit_low : (b : ℕ) → is_ascii_digit b ≡ true → 48 ≤ b
digit_low b h = leb-true 48 b (and_parts (leb 48 b) (leb b 57) h).0

digit_high : (b : ℕ) → is_ascii_digit b ≡ true → b ≤ 57
digit_high b h = leb-true b 57 (and_parts (leb 48 b) (leb b 57) h).1

digit_bytes : (bs : List ℕ) → list_all is_ascii_digit bs ≡ true → list_all is_name_byte bs ≡ true
digit_bytes [] h = refl
digit_bytes (b ∷ bs) h =
    let p = and_parts (is_ascii_digit b) (list_all is_ascii_digit bs) h in
    let low : 33 ≤ b = omega (arith, digit_low b p.0) in
    let high : b ≤ 126 = omega (arith, digit_high b p.0) in
    and_from (is_name_byte b) (list_all is_name_byte bs) (and_from (leb 33 b) (leb b 126) (le-leb 33 b low) (le-leb b 126 high)) (digit_bytes bs p.1)

-- bytes of words are bytes of names
pub word_bytes : (bs : List ℕ) → list_all is_word_byte bs ≡ true → list_all is_name_byte bs ≡ true
word_bytes [] h = refl
word_bytes (b ∷ bs) h =
    let p = and_parts (is_word_byte b) (list_all is_word_byte bs) h in
    and_from (is_name_byte b) (list_all is_name_byte bs) (and_parts (is_name_byte b) (not (b == 35)) p.0).0 (word_bytes bs p.1)

pub named : (index : ℕ) (name : Name) → index < 2 ^ 64 → IsWord name → IsName (name_in index name)
named index name l w =
    let digits : list_all is_ascii_digit (decimal index) ≡ true = digits_decimal own index l in
    record {
      some = omega (arith, decimal_nonempty index l, length-append (decimal index) (46 ∷ name));
      bytes =
          list_all-append is_name_byte (decimal index) (46 ∷ name) ∙ and_from (list_all is_name_byte (decimal index)) (list_all is_name_byte (46 ∷ name)) (digit_bytes (decimal index) digits)
          (word_bytes name w.plain);
    }

pub if_named : {X E : Type 0} (bytes : X → Name) (r : Result X E) (index : ℕ) (name : Name) → index < 2 ^ 64 → IsWord name → IfOk r (λ x. bytes x ≡ name_in index name) → IfOk r (λ x. IsName (bytes x))
if_named bytes (Ok x) index name l w h = subst IsName (sym h) (named index name l w)
if_named bytes (Err e) index name l w h = tt

-- ---- two names are one only where the indices and the names of the graphs are

not_stop : (x : ℕ) (xs : List ℕ) → list_all is_ascii_digit (x ∷ xs) ≡ true → x ≡ 46 → ⊥
not_stop x xs h e = absurd (omega (arith, e, digit_low x (and_parts (is_ascii_digit x) (list_all is_ascii_digit xs) h).0))

cons_first : (x y : ℕ) (xs ys : List ℕ) → x ∷ xs ≡ y ∷ ys → x ≡ y
cons_first x y xs ys e = cc

cons_rest : (x y : ℕ) (xs ys : List ℕ) → x ∷ xs ≡ y ∷ ys → xs ≡ ys
cons_rest x y xs ys e = cc

-- digits before a full stop end where it stands
seam : (xs ys a b : List ℕ) → list_all is_ascii_digit xs ≡ true → list_all is_ascii_digit ys ≡ true → xs ++ 46 ∷ a ≡ ys ++ 46 ∷ b → (xs ≡ ys) × (a ≡ b)
seam [] [] a b h k e = (refl, cons_rest 46 46 a b e)
seam [] (y ∷ ys) a b h k e = absurd (not_stop y ys k (sym (cons_first 46 y a (ys ++ 46 ∷ b) e)))
seam (x ∷ xs) [] a b h k e = absurd (not_stop x xs h (cons_first x 46 (xs ++ 46 ∷ a) b e))
seam (x ∷ xs) (y ∷ ys) a b h k e =
    let p = and_parts (is_ascii_digit x) (list_all is_ascii_digit xs) h in
    let q = and_parts (is_ascii_digit y) (list_all is_ascii_digit ys) k in
    let r = seam xs ys a b p.1 q.1 (cons_rest x y (xs ++ 46 ∷ a) (ys ++ 46 ∷ b) e) in
    (ap (λ (z : ℕ). z ∷ xs) (cons_first x y (xs ++ 46 ∷ a) (ys ++ 46 ∷ b) e) ∙ ap (λ (zs : List ℕ). y ∷ zs) r.0, r.1)

pub same_name : (i j : ℕ) (a b : Name) → i < 2 ^ 64 → j < 2 ^ 64 → name_in i a ≡ name_in j b → (i ≡ j) × (a ≡ b)
same_name i j a b li lj e =
    let di : list_all is_ascii_digit (decimal i) ≡ true = digits_decimal own i li in
    let dj : list_all is_ascii_digit (decimal j) ≡ true = digits_decimal own j lj in
    let s = seam (decimal i) (decimal j) a b di dj e in
    (decimal_injective i j li lj s.0, s.1)

-- ---- the next name of a graph is new

pub new_name : {X : Type 0} (own_name in_plan : X → Name) (index : ℕ) (old : List Name) (xs : List X) (i : ℕ) (x : X)
    → ((y : X) → in_plan y ≡ name_in index (own_name y))
    → index < 2 ^ 63 → AreNew index old → AreDistinct (map own_name xs) → i < length xs → x ≡ get_or xs i x
    → Contains (old ++ map in_plan (take i xs)) (in_plan x) → ⊥
new_name own_name in_plan index old xs i x is small new distinct l at c =
    elim (Contains-append_cases old (map in_plan (take i xs)) (in_plan x) c) [
      | inl t ↦ new (own_name x) (subst (Contains old) (is x) t)
      | inr t ↦ twice t
    ]
  where
    twice : Contains (map in_plan (take i xs)) (in_plan x) → ⊥
    twice t =
        let j = t.0 in
        let wide : index < 2 ^ 64 = omega (arith, small) in
        let short : length (take i xs) ≡ i = length-take-le i xs (omega (arith, l)) in
        let before : j < length (take i xs) = omega (arith, t.1, length-map (take i xs) in_plan) in
        let lower : j < i = omega (arith, before, short) in
        let e : in_plan (get_or xs j x) ≡ in_plan x = ap in_plan (sym (get_or-take i xs j x lower)) ∙ sym (get_or-map in_plan (take i xs) j x (in_plan x) before) ∙ t.2 in
        let s = same_name index index (own_name (get_or xs j x)) (own_name x) wide wide (sym (is (get_or xs j x)) ∙ e ∙ is x) in
        let within : i < length (map own_name xs) = omega (arith, l, length-map xs own_name) in
        distinct j i (own_name x) lower within
        (get_or-map own_name xs j x (own_name x) (omega (arith, lower, l)) ∙ s.1 ∙ ap own_name at ∙ sym (get_or-map own_name xs i x (own_name x) l))
