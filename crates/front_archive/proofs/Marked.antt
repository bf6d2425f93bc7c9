-- Members and the columns of their vectors: which place covers an offer, and what the marks of an offer leave.
use Rattle.std.proofs.Common.{◌≡◌, ℕ, zero, suc, ◌+◌, ◌<◌, ◌||◌, List, [], ◌∷◌, ◌++◌, length, set, ltb, Bool, true, false, cond, not, Option, Some, None, MatchOption, ap, ap₂, sym, ◌∙◌, subst, refl, arith}
use Rattle.std.specs.List.{All, filter, list_any, position, position_or_len}
use Rattle.std.proofs.lemmas.Bool.{lt-ltb, false_from_ne_true}
use Rattle.std.proofs.lemmas.List.{length-map, length_push}
use Rattle.std.proofs.lemmas.List.Elements.{All-head, All-tail, All-cons, All-nil}
use Rattle.std.specs.Cmp.{both_ways}
use Rattle.spec_model.specs.Vectors.{IsAtMost}
use Rattle.dominance_lanes.specs.Columns.{Vectors, vector_at, NoneBelow, IsFirstBelow, MarksAbove, unmarked}
use Rattle.front_archive.specs.declared.member.Member.{Member}
use Rattle.front_archive.specs.Members.{covers, vectors_of, HasWidth, AreColumnsOf}
use Rattle.front_archive.proofs.Bests.{any_position}
use Rattle.front_archive.proofs.Places.{each_place, by_places}

-- ---- the first place

module _ (m : Member) (w : ℕ) (long : length m.vector ≡ w) where
  covering : (x : Member) → HasWidth w x → IsAtMost x.vector m.vector → covers x m ≡ true
  covering x wide h = by_places x.vector m.vector (wide ∙ sym long) h

  not_covering : (x : Member) → (IsAtMost x.vector m.vector → ⊥) → covers x m ≡ false
  not_covering x isnt = false_from_ne_true (covers x m) (λ is. isnt (each_place x.vector m.vector is))

  place_of : (members : List Member) (k : ℕ) → All (HasWidth w) members → k < length members → IsAtMost (vector_at (vectors_of members) k) m.vector → NoneBelow (vectors_of members) m.vector k
      → position_or_len (λ x. covers x m) members ≡ k
  place_of [] k wide h is none = absurd (omega arith)
  place_of (x ∷ xs) zero wide h is none =
      ap (λ b. cond (not b) (1 + position_or_len (λ x. covers x m) xs) 0) (covering x (All-head (HasWidth w) x xs wide) is)
  place_of (x ∷ xs) (suc k) wide h is none =
      let rest = place_of xs k (All-tail (HasWidth w) x xs wide) (omega arith) is (λ j lt. none (suc j) (omega arith)) in
      let next : 1 + position_or_len (λ x. covers x m) xs ≡ suc k = omega (arith, rest) in
      ap (λ b. cond (not b) (1 + position_or_len (λ x. covers x m) xs) 0) (not_covering x (none zero (omega arith))) ∙ next

  none_covers : (members : List Member) → NoneBelow (vectors_of members) m.vector (length (vectors_of members)) → list_any (λ x. covers x m) members ≡ false
  none_covers [] none = refl
  none_covers (x ∷ xs) none =
      ap₂ (λ a b. a || b) (not_covering x (none zero (omega arith))) (none_covers xs (λ k h. none (suc k) (omega arith)))

  first_of : (members : List Member) (r : Option ℕ) → All (HasWidth w) members → MatchOption r (NoneBelow (vectors_of members) m.vector (length (vectors_of members)))
      (IsFirstBelow (vectors_of members) m.vector) → r ≡ position (λ x. covers x m) members
  first_of members None wide none =
      let p = position_or_len (λ x. covers x m) members in
      ap (λ b. cond b (Some p) None) (sym (none_covers members none) ∙ any_position (λ x. covers x m) members)
  first_of members (Some k) wide is =
      let inside : k < length members = omega (arith, is.within, length-map members (λ (x : Member). x.vector)) in
      let place = place_of members k wide inside is.below is.first in
      subst (λ n. Some k ≡ cond (ltb n (length members)) (Some n) None) (sym place) (ap (λ b. cond b (Some k) None) (sym (lt-ltb k (length members) inside)))

  -- what is found in columns is found among the members
  pub first_place : (us : List (List ℕ)) (members : List Member) (r : Option ℕ) → us ≡ vectors_of members → All (HasWidth w) members
      → MatchOption r (NoneBelow us m.vector (length us)) (IsFirstBelow us m.vector) → r ≡ position (λ x. covers x m) members
  first_place us members r same wide found = first_of members r wide (subst (λ us. MatchOption r (NoneBelow us m.vector (length us)) (IsFirstBelow us m.vector)) same found)

-- ---- what is left

vectors-unmarked : (ms : List Bool) (members : List Member) → unmarked ms (vectors_of members) ≡ vectors_of (unmarked ms members)
vectors-unmarked [] members = refl
vectors-unmarked (b ∷ ms) [] = refl
vectors-unmarked (true ∷ ms) (x ∷ xs) = vectors-unmarked ms xs
vectors-unmarked (false ∷ ms) (x ∷ xs) = ap (λ us. x.vector ∷ us) (vectors-unmarked ms xs)

chosen : (b t : Bool) (x m : Member) (rest left : List Member) → b ≡ t → rest ≡ left ++ m ∷ [] → cond b rest (x ∷ rest) ≡ cond (not t) (x ∷ left) left ++ m ∷ []
chosen true true x m rest left is e = e
chosen true false x m rest left is e = absurd (cc)
chosen false true x m rest left is e = absurd (cc)
chosen false false x m rest left is e = ap (λ l. x ∷ l) e

last_of : {X : Type 0} (P : X → Type 0) (xs : List X) (x : X) → All P (xs ++ x ∷ []) → P x
last_of P [] x all = All-head P x [] all
last_of P (y ∷ ys) x all = last_of P ys x (All-tail P y (ys ++ x ∷ []) all)

All-unmarked : {X : Type 0} (P : X → Type 0) (ms : List Bool) (xs : List X) → All P xs → All P (unmarked ms xs)
All-unmarked P [] xs all = all
All-unmarked P (b ∷ ms) [] all = all
All-unmarked P (true ∷ ms) (x ∷ xs) all = All-unmarked P ms xs (All-tail P x xs all)
All-unmarked P (false ∷ ms) (x ∷ xs) all = All-cons P x (unmarked ms xs) (All-head P x xs all) (All-unmarked P ms xs (All-tail P x xs all))

-- with the marks of what the last one covers, its own taken off
module _ (m : Member) (w : ℕ) (long : length m.vector ≡ w) where
  uncovered : (before : List Member) (ms : List Bool) → All (HasWidth w) before → length ms ≡ length before + 1 → MarksAbove (vectors_of (before ++ m ∷ [])) m.vector ms
      → unmarked (set ms (length before) false) (before ++ m ∷ []) ≡ filter (λ x. not (covers m x)) before ++ m ∷ []
  uncovered before [] wide count marks = absurd (omega arith)
  uncovered [] (b ∷ []) wide count marks = refl
  uncovered [] (b ∷ d ∷ ms) wide count marks = absurd (omega arith)
  uncovered (x ∷ xs) (b ∷ ms) wide count marks =
      let here = marks zero (omega arith) in
      let same = long ∙ sym (All-head (HasWidth w) x xs wide) in
      let is = both_ways b (covers m x) (λ on. by_places m.vector x.vector same (here.0 on)) (λ at. here.1 (each_place m.vector x.vector at)) in
      let rest = uncovered xs ms (All-tail (HasWidth w) x xs wide) (omega arith) (λ k h. marks (suc k) (omega arith)) in
      chosen b (covers m x) x m _ (filter (λ x. not (covers m x)) xs) is rest

first_ones : {X : Type 0} (P : X → Type 0) (xs : List X) (x : X) → All P (xs ++ x ∷ []) → All P xs
first_ones P [] x all = All-nil P
first_ones P (y ∷ ys) x all = All-cons P y ys (All-head P y (ys ++ x ∷ []) all) (first_ones P ys x (All-tail P y (ys ++ x ∷ []) all))

pub drops_covered : (members before : List Member) (m : Member) (columns : Vectors) (v : List ℕ) (ms : List Bool) (last : ℕ) → AreColumnsOf members columns → members ≡ before ++ m ∷ []
    → v ≡ m.vector → length ms ≡ length members → last + 1 ≡ length members → MarksAbove columns.vectors v ms → unmarked (set ms last false) members ≡ filter (λ x. not (covers m x)) before ++ m ∷ []
drops_covered members before m columns v ms last are is vector count end marks =
    let w = columns.width in
    let wide = subst (All (HasWidth w)) is are.widths in
    let long = ap length is ∙ length_push before m in
    let at : last ≡ length before = omega (arith, long) in
    let above = subst (λ xs. MarksAbove (vectors_of xs) m.vector ms) is (subst (λ us. MarksAbove us m.vector ms) are.same (subst (λ u. MarksAbove columns.vectors u ms) vector marks)) in
    ap₂ (λ n xs. unmarked (set ms n false) xs) at is
    ∙ uncovered m w (last_of (HasWidth w) before m wide) before ms (first_ones (HasWidth w) before m wide) (count ∙ long) above

pub keeps_columns : (members : List Member) (columns : Vectors) (ms : List Bool) → AreColumnsOf members columns
    → AreColumnsOf (unmarked ms members) (record columns { vectors = unmarked ms columns.vectors })
keeps_columns members columns ms are = record {
  same = ap (unmarked ms) are.same ∙ vectors-unmarked ms members;
  widths = All-unmarked (HasWidth columns.width) ms members are.widths;
}
