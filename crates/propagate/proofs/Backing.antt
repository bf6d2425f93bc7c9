-- Taking literals off: what they took is given back, and then those wait that may force them anew.
use Rattle.std.proofs.Common.{◌≡◌, ◌≢◌, ℕ, ◌+◌, ◌<◌, ◌≤◌, ◌^◌, ◌⊎◌, Bool, true, false, Option, Some, None, List, [], ◌∷◌, ◌++◌, length, get_or, take, drop, refl, sym, ap, ◌∙◌, subst, arith, inl, inr, suc, add-one, drop-cons}
use Rattle.std.proofs.lemmas.Bool.{cases_eq}
use Rattle.std.proofs.lemmas.Bool.Decides.{nat_tests}
use Rattle.std.proofs.lemmas.List.{length_push, get_or_append_left, get_or-take, length-take-le}
use Rattle.std.proofs.lemmas.List.Elements.{All-cons, All-tail}
use Rattle.pb_rules.specs.declared.Term.{Term}
use Rattle.pb_rules.specs.Literal.{Literal, opposite_of}
use Rattle.pb_rules.specs.Linear.{Linear}
use Rattle.pb_rules.specs.Partial.{open_weight}
use Rattle.pb_rules.proofs.Rooms.{open_weight-le}
use Rattle.propagate.specs.declared.occurrences.Occurrence.{Occurrence}
use Rattle.propagate.specs.Counters.{literal_number, value_given, linear_at, weight_of, weight_at, occurrences_of, IsLimited, IsQuietBut, IsBuilt, AreDistinct, IsGivenBack, GaveRooms, Woke}
use Rattle.propagate.proofs.Weights.{value_given_same, value_given_other, open_weight_falls, weight_of-term}
use Rattle.propagate.proofs.Steps.{distinct_first, distinct_last}
use Rattle.propagate.proofs.Tying.{last_below}

-- the value of a first literal's variable, and of another
value_own : (off : List Literal) (l : Literal) (x : ℕ) → l.var ≡ x → value_given (l ∷ off) x ≡ Some l.yes
value_own off l x e = grind (arith, nat_tests)

value_rest : (off : List Literal) (l : Literal) (x : ℕ) → l.var ≢ x → value_given (l ∷ off) x ≡ value_given off x
value_rest off l x n = grind (arith, nat_tests)

-- a constraint that was quiet, once a literal gave back what it took
quiet_given : (room back : ℕ) (ls off : List Literal) (l : Literal) (c : Linear) → IsQuietBut room (value_given (ls ++ l ∷ [])) off c → back ≡ room + weight_of (literal_number (opposite_of l)) c.terms
    → IsQuietBut back (value_given ls) (l ∷ off) c
quiet_given room back ls off l c p is =
    let nc = p.no_conflict in
    record {
      no_conflict = omega arith;
      none_forced = λ k d lt f g. (
          let t = get_or c.terms k d in
          elim (cases_eq l.var t.lit.var) [
            | inr n ↦ (
                let f' : value_given (ls ++ l ∷ []) t.lit.var ≡ None = value_given_other ls l t.lit.var n ∙ f in
                let h = p.none_forced k d lt f' (λ e. g (value_rest off l t.lit.var n ∙ e)) in
                omega (arith, h, is))
            | inl s ↦ opposite k d lt s g l.yes t.lit.yes refl refl
          ]);
    }
  where
    opposite : (k : ℕ) (d : Term) → k < length c.terms → l.var ≡ (get_or c.terms k d).lit.var → value_given (l ∷ off) (get_or c.terms k d).lit.var ≢ Some (get_or c.terms k d).lit.yes → (a b : Bool)
        → l.yes ≡ a → (get_or c.terms k d).lit.yes ≡ b → c.degree + (get_or c.terms k d).coef ≤ back
    opposite k d lt s g true true a b = (let v = value_own off l (get_or c.terms k d).lit.var s in absurd (g (v ∙ ap (λ (x : Bool). Some x) (a ∙ sym b))))
    opposite k d lt s g false false a b = (let v = value_own off l (get_or c.terms k d).lit.var s in absurd (g (v ∙ ap (λ (x : Bool). Some x) (a ∙ sym b))))
    opposite k d lt s g true false a b = (
        let e : literal_number (get_or c.terms k d).lit ≡ literal_number (opposite_of l) = rw (a, b) (omega arith) in
        let h = weight_of-term (literal_number (opposite_of l)) c.terms k d lt e in
        let nc = p.no_conflict in
        omega (arith, h, nc, is))
    opposite k d lt s g false true a b = (
        let e : literal_number (get_or c.terms k d).lit ≡ literal_number (opposite_of l) = rw (a, b) (omega arith) in
        let h = weight_of-term (literal_number (opposite_of l)) c.terms k d lt e in
        let nc = p.no_conflict in
        omega (arith, h, nc, is))

-- truth values that are not the same
other : (x y a b : Bool) → x ≡ a → y ≡ b → a ≢ b → Some x ≢ Some y
other x y a b p q n e = n (sym p ∙ inside x y e ∙ q)
  where
    inside : (x y : Bool) → Some x ≡ Some y → x ≡ y
    inside x y e = cc

-- and once it waits, or can't force the literal
quiet_woken : (room limit own : ℕ) (ls off : List Literal) (l : Literal) (c : Linear) → IsLimited limit c → IsQuietBut room (value_given ls) (l ∷ off) c → own ≡ weight_of (literal_number l) c.terms
    → (own ≡ 0) ⊎ (limit ≤ room) → IsQuietBut room (value_given ls) off c
quiet_woken room limit own ls off l c limited p own-is w =
    let nc = p.no_conflict in
    elim w [
      | inr h ↦ record { no_conflict = nc; none_forced = λ k d lt f g. (let b = limited.terms k d lt in omega arith) }
      | inl z ↦ record {
        no_conflict = nc;
        none_forced = λ k d lt f g. (
            let t = get_or c.terms k d in
            elim (cases_eq l.var t.lit.var) [
              | inr n ↦ p.none_forced k d lt f (λ e. g (sym (value_rest off l t.lit.var n) ∙ e))
              | inl s ↦ own_literal k d lt s f z l.yes t.lit.yes refl refl
            ]);
      }
    ]
  where
    own_literal : (k : ℕ) (d : Term) → k < length c.terms → l.var ≡ (get_or c.terms k d).lit.var → value_given ls (get_or c.terms k d).lit.var ≡ None → own ≡ 0 → (a b : Bool) → l.yes ≡ a
        → (get_or c.terms k d).lit.yes ≡ b → c.degree + (get_or c.terms k d).coef ≤ room
    own_literal k d lt s f z true true a b = (
        let e : literal_number (get_or c.terms k d).lit ≡ literal_number l = rw (a, b) (omega arith) in
        let h = weight_of-term (literal_number l) c.terms k d lt e in
        let nc = p.no_conflict in
        omega (arith, h, nc, own-is, z))
    own_literal k d lt s f z false false a b = (
        let e : literal_number (get_or c.terms k d).lit ≡ literal_number l = rw (a, b) (omega arith) in
        let h = weight_of-term (literal_number l) c.terms k d lt e in
        let nc = p.no_conflict in
        omega (arith, h, nc, own-is, z))
    own_literal k d lt s f z true false a b = p.none_forced k d lt f (λ e. other l.yes (get_or c.terms k d).lit.yes true false a b (λ x. cc) (sym (value_own off l (get_or c.terms k d).lit.var s) ∙ e))
    own_literal k d lt s f z false true a b = p.none_forced k d lt f (λ e. other l.yes (get_or c.terms k d).lit.yes false true a b (λ x. cc) (sym (value_own off l (get_or c.terms k d).lit.var s) ∙ e))

-- what the literal that is taken off gives back
pub given_fits : (n : ℕ) (slots : List (Option Linear)) (limits rooms : List ℕ) (lists : List (List Occurrence)) (ls : List Literal) (l : Literal) → IsBuilt n slots limits lists
    → ((i : ℕ) → get_or rooms i 0 ≡ open_weight (value_given (ls ++ l ∷ [])) (linear_at slots i).terms) → AreDistinct (ls ++ l ∷ []) → (i : ℕ)
    → get_or rooms i 0 + weight_at i (occurrences_of lists (literal_number (opposite_of l))) < 2 ^ 63
given_fits n slots limits rooms lists ls l b sums distinct i =
    let ts = (linear_at slots i).terms in
    let free = distinct_last ls l distinct in
    let a = open_weight_falls (value_given ls) (value_given (ls ++ l ∷ [])) l ts free (value_given_same ls l free) (value_given_other ls l) in
    let r = sums i in
    let m = b.weights i (literal_number (opposite_of l)) in
    let c = open_weight-le (value_given ls) ts in
    let d = b.small i in
    omega (arith, a, r, m, c, d)

-- the last counted literal gave back what it took
pub given_more : (n : ℕ) (slots : List (Option Linear)) (limits rooms rooms' : List ℕ) (lists : List (List Occurrence)) (w : List Bool) (ls off : List Literal) (l : Literal)
    → IsBuilt n slots limits lists → IsGivenBack n slots rooms w (ls ++ l ∷ []) off → GaveRooms (occurrences_of lists (literal_number (opposite_of l))) rooms rooms'
    → IsGivenBack n slots rooms' w ls (l ∷ off)
given_more n slots limits rooms rooms' lists w ls off l b s g =
    let free = distinct_last ls l s.distinct in
    let len = length_push ls l in
    let B : Literal → Type 0 = λ m. m.var < n in
    record {
      sums = λ i. (
          let ts = (linear_at slots i).terms in
          let a = open_weight_falls (value_given ls) (value_given (ls ++ l ∷ [])) l ts free (value_given_same ls l free) (value_given_other ls l) in
          let r = s.sums i in
          let m = b.weights i (literal_number (opposite_of l)) in
          let u = g.sums i in
          omega (arith, a, r, m, u));
      distinct = distinct_first ls l s.distinct;
      below = λ j d lt. (
          let e : get_or (ls ++ l ∷ []) j d ≡ get_or ls j d = get_or_append_left ls (l ∷ []) d j lt in
          subst B e (s.below j d (omega (arith, len))));
      off_below = All-cons B l off (last_below n (ls ++ l ∷ []) ls l refl s.below) s.off_below;
      quiet = λ i z. (
          let m = b.weights i (literal_number (opposite_of l)) in
          let u : get_or rooms' i 0 ≡ get_or rooms i 0 + weight_of (literal_number (opposite_of l)) (linear_at slots i).terms = g.sums i ∙ ap (λ v. get_or rooms i 0 + v) m in
          quiet_given (get_or rooms i 0) (get_or rooms' i 0) ls off l (linear_at slots i) (s.quiet i z) u);
    }

-- those that may force one of the literals wait
pub given_woken : (n : ℕ) (slots : List (Option Linear)) (limits rooms : List ℕ) (lists : List (List Occurrence)) (w w' : List Bool) (ls off : List Literal) (l : Literal)
    → IsBuilt n slots limits lists → IsGivenBack n slots rooms w ls (l ∷ off) → Woke (occurrences_of lists (literal_number l)) limits rooms w w' → IsGivenBack n slots rooms w' ls off
given_woken n slots limits rooms lists w w' ls off l b s k =
    let B : Literal → Type 0 = λ m. m.var < n in
    record {
      sums = s.sums;
      distinct = s.distinct;
      below = s.below;
      off_below = All-tail B l off s.off_below;
      quiet =
          λ i z. quiet_woken (get_or rooms i 0) (get_or limits i 0) (weight_at i (occurrences_of lists (literal_number l))) ls off l (linear_at slots i) (b.limited i) (s.quiet i (k.waits i z))
          (b.weights i (literal_number l)) (k.quiet i z);
    }

-- the literals from a place on
pub off_at : (ls : List Literal) (top k : ℕ) (l : Literal) → k < top → top ≤ length ls → l ≡ get_or ls k l → drop k (take top ls) ≡ l ∷ drop (k + 1) (take top ls)
off_at ls top k l h le at =
    let ts = take top ls in
    let len : length ts ≡ top = length-take-le top ls le in
    let lt : k < length ts = omega (arith, len) in
    let is : l ≡ get_or ts k l = at ∙ sym (get_or-take top ls k l h) in
    drop-cons ts k l lt ∙ ap (λ (u : Literal). u ∷ drop (suc k) ts) (sym is) ∙ ap (λ (m : ℕ). l ∷ drop m ts) (sym (add-one k))
