-- Terms in rising order are their own normal form.
use Rattle.std.proofs.Common.{◌≡◌, ℕ, zero, suc, ◌+◌, ◌*◌, ◌<◌, ◌≤◌, ◌^◌, Bool, true, false, cond, List, [], ◌∷◌, ◌++◌, refl, sym, ap, ◌∙◌, subst, arith, add-one, inl, inr}
use Rattle.std.specs.Prelude.{map, nat_lt, All}
use Rattle.std.specs.List.{flat_map}
use Rattle.std.proofs.lemmas.List.Elements.{All-cons, All-head, All-tail}
use Rattle.std.proofs.lemmas.List.Sums.{sum_by-cons}
use Rattle.std.proofs.lemmas.Bool.{lt-ltb, ltb-true, ltb-false, cases_lt}
use Rattle.pb_rules.specs.declared.Term.{Term}
use Rattle.pb_rules.specs.Linear.{Linear, IsNormal, VarsBelow, total}
use Rattle.spec_model.specs.Spec.{below, those}
use Rattle.spec_model.proofs.Those.{those_more, below_more, flat_map-below_more}
use Rattle.pb_rules.proofs.Rising.{From, from_pairs}
use Rattle.spec_model.proofs.Joined.{All-those}
use Rattle.encode_model.specs.Encoding.{weighted, has_weight, put, by_variable, at_least}
use Rattle.encode_model.specs.Rising.{RisesWithin, IsTermFrom, TermsWithin, IsRising}

pub wider : (a b c d : ℕ) (vs : List ℕ) → c ≤ a → b ≤ d → RisesWithin a b vs → RisesWithin c d vs
wider a b c d [] hl hr h = omega (arith, hl, hr, h)
wider a b c d (v ∷ vs) hl hr h = (omega (arith, hl, h.0), wider (v + 1) b (v + 1) d vs (omega arith) hr h.1)

pub joined : (a b c : ℕ) (vs ws : List ℕ) → RisesWithin a b vs → RisesWithin b c ws → RisesWithin a c (vs ++ ws)
joined a b c [] ws h g = wider b c a c ws h (omega arith) g
joined a b c (v ∷ vs) ws h g = (h.0, joined (v + 1) b c vs ws h.1 g)

-- the values of a rising function at those that pass
pub rises_those : (g : ℕ → ℕ) (p : ℕ → Bool) (n a b : ℕ) → a ≤ b → ((i : ℕ) → i < n → (a ≤ g i) × (g i < b)) → ((i j : ℕ) → i < j → j < n → g i < g j) → RisesWithin a b (map g (those p n))
rises_those g p zero a b le within up = le
rises_those g p (suc n) a b le within up =
    subst (λ (k : ℕ). RisesWithin a b (map g (those p k))) (add-one n) (subst (λ (xs : List ℕ). RisesWithin a b (map g xs)) (sym (those_more p n)) (last (p n)
    (rises_those g p n a (g n) (within n (omega arith)).0 (λ i l. ((within i (omega arith)).0, up i n l (omega arith))) (λ i j l k. up i j l (omega arith)))
    (rises_those g p n a b le (λ i l. within i (omega arith)) (λ i j l k. up i j l (omega arith)))))
  where
    spread : (c : ℕ) (xs ys : List ℕ) → (u : ℕ) → RisesWithin u c (map g xs) → RisesWithin c b (map g ys) → RisesWithin u b (map g (xs ++ ys))
    spread c [] ys u h k = wider c b u b (map g ys) h (omega arith) k
    spread c (x ∷ xs) ys u h k = (h.0, spread c xs ys (g x + 1) h.1 k)

    last : (t : Bool) → RisesWithin a (g n) (map g (those p n)) → RisesWithin a b (map g (those p n)) → RisesWithin a b (map g (those p n ++ cond t (n ∷ []) []))
    last true up_to all = spread (g n) (those p n) (n ∷ []) a up_to (omega arith, omega (arith, (within n (omega arith)).1))
    last false up_to all = spread b (those p n) [] a all (omega arith)

abbrev always : ℕ → Bool
always i = true

those_all : (n : ℕ) → those always n ≡ below n
those_all zero = refl
those_all (suc n) =
    subst (λ (k : ℕ). those always k ≡ below k) (add-one n) (those_more always n ∙ (ap (λ (xs : List ℕ). xs ++ n ∷ []) (those_all n) ∙ sym (below_more n)))

pub rises_below : (g : ℕ → ℕ) (n a b : ℕ) → a ≤ b → ((i : ℕ) → i < n → (a ≤ g i) × (g i < b)) → ((i j : ℕ) → i < j → j < n → g i < g j) → RisesWithin a b (map g (below n))
rises_below g n a b le within up = subst (λ (xs : List ℕ). RisesWithin a b (map g xs)) (those_all n) (rises_those g always n a b le within up)

map_same : (xs : List ℕ) → map (λ x. x) xs ≡ xs
map_same [] = refl
map_same (x ∷ xs) = ap (λ (ys : List ℕ). x ∷ ys) (map_same xs)

-- those that pass rise
pub rises_numbers : (p : ℕ → Bool) (n : ℕ) → RisesWithin 0 n (those p n)
rises_numbers p n = subst (λ (xs : List ℕ). RisesWithin 0 n xs) (map_same (those p n)) (rises_those (λ x. x) p n 0 n (omega arith) (λ i l. (omega arith, l)) (λ i j l k. l))

-- pieces that follow one another
pub rises_pieces : (g : ℕ → List ℕ) (c : ℕ → ℕ) (n : ℕ) → ((i : ℕ) → i < n → RisesWithin (c i) (c (i + 1)) (g i)) → RisesWithin (c 0) (c n) (flat_map g (below n))
rises_pieces g c zero h = omega arith
rises_pieces g c (suc n) h =
    subst (λ (k : ℕ). RisesWithin (c 0) (c k) (flat_map g (below k))) (add-one n) (subst (λ (xs : List ℕ). RisesWithin (c 0) (c (n + 1)) xs) (sym (flat_map-below_more g n))
    (joined (c 0) (c n) (c (n + 1)) (flat_map g (below n)) (g n) (rises_pieces g c n (λ i l. h i (omega arith))) (h n (omega arith))))

-- a literal with coefficient 1
abbrev pub literal : Bool → ℕ → Term
literal sign v = record { coef = 1; lit = record { var = v; yes = sign } }

-- a literal's term stands from each lower variable on
pub literal_from : (a v : ℕ) (y : Bool) → a ≤ v → IsTermFrom (2 ^ 40) a (literal y v)
literal_from a v y h = record { from = h; some = omega arith; small = omega arith }

-- lists of terms
pub literals : (a b : ℕ) (y : Bool) (vs : List ℕ) → RisesWithin a b vs → TermsWithin (2 ^ 40) a b (map (literal y) vs)
literals a b y [] h = h
literals a b y (v ∷ vs) h = (literal_from a v y h.0, literals (v + 1) b y vs h.1)

pub terms_bounds : (c a b : ℕ) (ts : List Term) → TermsWithin c a b ts → a ≤ b
terms_bounds c a b [] h = h
terms_bounds c a b (t ∷ ts) h = omega (arith, h.0.from, terms_bounds c (t.lit.var + 1) b ts h.1)

-- terms within bounds are within wider ones
pub terms_wider : (c d a b i j : ℕ) (ts : List Term) → c ≤ d → i ≤ a → b ≤ j → TermsWithin c a b ts → TermsWithin d i j ts
terms_wider c d a b i j [] le hl hr h = omega (arith, hl, hr, h)
terms_wider c d a b i j (t ∷ ts) le hl hr h =
    (record { from = omega (arith, hl, h.0.from); some = h.0.some; small = omega (arith, le, h.0.small) }, terms_wider c d (t.lit.var + 1) b (t.lit.var + 1) j ts le (omega arith) hr h.1)

pub terms_joined : (d a b c : ℕ) (ts us : List Term) → TermsWithin d a b ts → TermsWithin d b c us → TermsWithin d a c (ts ++ us)
terms_joined d a b c [] us h g = terms_wider d d b c a c us (omega arith) h (omega arith) g
terms_joined d a b c (t ∷ ts) us h g = (h.0, terms_joined d (t.lit.var + 1) b c ts us h.1 g)

-- one term behind others
pub terms_then : (d a b : ℕ) (ts : List Term) (t : Term) → TermsWithin d a b ts → IsTermFrom d b t → TermsWithin d a (t.lit.var + 1) (ts ++ t ∷ [])
terms_then d a b ts t h g = terms_joined d a b (t.lit.var + 1) ts (t ∷ []) h (g, omega arith)

-- the same where coefficients are as small as weights are
pub small_wider : (a b i j : ℕ) (ts : List Term) → i ≤ a → b ≤ j → TermsWithin (2 ^ 40) a b ts → TermsWithin (2 ^ 40) i j ts
small_wider a b i j ts hl hr h = terms_wider (2 ^ 40) (2 ^ 40) a b i j ts (omega arith) hl hr h

-- no term of a list is of the variable
abbrev pub LacksVariable : ℕ → List Term → Type 0
LacksVariable v [] = Unit {0}
LacksVariable v (t ∷ ts) = (t.lit.var ≡ v → ⊥) × LacksVariable v ts

-- a term of a further variable put in its place
pub terms_put : (c a b : ℕ) (t : Term) (ts : List Term) → IsTermFrom c a t → t.lit.var < b → LacksVariable t.lit.var ts → TermsWithin c a b ts → TermsWithin c a b (put t ts)
terms_put c a b t [] h g lacks r = (h, omega (arith, g))
terms_put c a b t (u ∷ us) h g lacks r = at (nat_lt t.lit.var u.lit.var) refl (λ le. terms_put c (u.lit.var + 1) b t us (record { from = le; some = h.some; small = h.small }) g lacks.1 r.1)
  where
    at : (q : Bool) → nat_lt t.lit.var u.lit.var ≡ q → (u.lit.var + 1 ≤ t.lit.var → TermsWithin c (u.lit.var + 1) b (put t us)) → TermsWithin c a b (cond q (t ∷ (u ∷ us)) (u ∷ put t us))
    at true e later = (h, (record { from = omega (arith, ltb-true t.lit.var u.lit.var e); some = r.0.some; small = r.0.small }, r.1))
    at false e later = (r.0, later (further (ltb-false t.lit.var u.lit.var e)))
      where
        further : u.lit.var ≤ t.lit.var → u.lit.var + 1 ≤ t.lit.var
        further le =
            elim (cases_lt u.lit.var t.lit.var) [
              | inl less ↦ omega (arith, less)
              | inr more ↦ absurd (lacks.0 (omega (arith, le, more)))
            ]

-- terms in order stay as they are
pub put_first : (c b : ℕ) (t : Term) (ts : List Term) → TermsWithin c (t.lit.var + 1) b ts → put t ts ≡ t ∷ ts
put_first c b t [] h = refl
put_first c b t (u ∷ us) h = ap (λ (q : Bool). cond q (t ∷ (u ∷ us)) (u ∷ put t us)) (lt-ltb t.lit.var u.lit.var (omega (arith, h.0.from)))

pub sorted_already : (c a b : ℕ) (ts : List Term) → TermsWithin c a b ts → by_variable ts ≡ ts
sorted_already c a b [] h = refl
sorted_already c a b (t ∷ ts) h = ap (put t) (sorted_already c (t.lit.var + 1) b ts h.1) ∙ put_first c b t ts h.1

-- what holds of each term holds of each where they are put in order
put_each : (P : Term → Type 0) (t : Term) (ts : List Term) → P t → All P ts → All P (put t ts)
put_each P t [] p h = All-cons P t [] p h
put_each P t (u ∷ us) p h = at (nat_lt t.lit.var u.lit.var) (put_each P t us p (All-tail P u us h))
  where
    at : (q : Bool) → All P (put t us) → All P (cond q (t ∷ (u ∷ us)) (u ∷ put t us))
    at true later = All-cons P t (u ∷ us) p h
    at false later = All-cons P u (put t us) (All-head P u us h) later

sorted_each : (P : Term → Type 0) (ts : List Term) → All P ts → All P (by_variable ts)
sorted_each P [] h = h
sorted_each P (t ∷ ts) h = put_each P t (by_variable ts) (All-head P t ts h) (sorted_each P ts (All-tail P t ts h))

-- what holds of each term holds of each of the constraint
pub at_least_each : (P : Term → Type 0) (n : ℕ) (ts : List Term) → All P ts → All P (at_least n ts).terms
unfolding at_least
at_least_each P n ts h = sorted_each P ts h

-- the variables that have a weight, each with it
weights_within : (weight : ℕ → ℕ) (sign : Bool) (a b : ℕ) (xs : List ℕ) → RisesWithin a b xs → All (λ x. (0 < weight x) × (weight x ≤ 2 ^ 40)) xs
    → TermsWithin (2 ^ 40) a b (map (weighted weight sign) xs)
unfolding weighted
weights_within weight sign a b [] h small = h
weights_within weight sign a b (x ∷ xs) h small =
    let one = All-head (λ (y : ℕ). (0 < weight y) × (weight y ≤ 2 ^ 40)) x xs small in
    (record { from = h.0; some = one.0; small = one.1 }, weights_within weight sign (x + 1) b xs h.1 (All-tail (λ (y : ℕ). (0 < weight y) × (weight y ≤ 2 ^ 40)) x xs small))

-- the weighted terms of variables stand by rising variable
pub weights_rise : (weight : ℕ → ℕ) (sign : Bool) (n : ℕ) → ((x : ℕ) → weight x ≤ 2 ^ 40) → TermsWithin (2 ^ 40) 0 n (map (weighted weight sign) (those (has_weight weight) n))
unfolding has_weight
weights_rise weight sign n small =
    weights_within weight sign 0 n (those (has_weight weight) n) (rises_numbers (has_weight weight) n)
    (All-those (λ (x : ℕ). (0 < weight x) × (weight x ≤ 2 ^ 40)) (has_weight weight) n (λ x l e. (ltb-true 0 (weight x) e, small x)))

-- a constraint whose terms are in order, and one of which the first was put in its place
pub at_least_within : (c a b m : ℕ) (ts : List Term) → TermsWithin c a b ts → at_least m ts ≡ record { terms = ts; degree = m }
unfolding at_least
at_least_within c a b m ts h = ap (λ (us : List Term). make us) (sorted_already c a b ts h)
  where
    make : List Term → Linear
    make us = record { terms = us; degree = m }

pub at_least-put : (n m : ℕ) (t : Term) (ts : List Term) → IsRising n ts → IsRising n (put t ts) → at_least m (put t ts) ≡ at_least m (t ∷ ts)
unfolding at_least
at_least-put n m t ts h g = ap (λ (us : List Term). make us) (sorted_already (2 ^ 40) 0 n (put t ts) g.rises ∙ ap (put t) (sym (sorted_already (2 ^ 40) 0 n ts h.rises)))
  where
    make : List Term → Linear
    make us = record { terms = us; degree = m }

-- they are in normal form
from_of : (c a b : ℕ) (ts : List Term) → TermsWithin c a b ts → From a ts
from_of c a b [] h = tt
from_of c a b (t ∷ ts) h = (h.0.from, from_of c (t.lit.var + 1) b ts h.1)

some_each : (c a b : ℕ) (ts : List Term) → TermsWithin c a b ts → All (λ t. 0 < t.coef) ts
some_each c a b [] h k d l = absurd (omega (arith, l))
some_each c a b (t ∷ ts) h zero d l = h.0.some
some_each c a b (t ∷ ts) h (suc k) d l = some_each c (t.lit.var + 1) b ts h.1 k d (omega (arith, l))

-- terms within bounds, with a small sum and degree, are in normal form
pub normal_within : (c a b m : ℕ) (ts : List Term) → TermsWithin c a b ts → total ts < 2 ^ 63 → m < 2 ^ 63 → IsNormal ts m
normal_within c a b m ts h few small = record { positive = some_each c a b ts h; rising = from_pairs a ts (from_of c a b ts h); small = few; small_degree = small }

-- terms within bounds are below the upper one
pub below_within : (c a b : ℕ) (ts : List Term) → TermsWithin c a b ts → VarsBelow b ts
below_within c a b [] h k d l = absurd (omega (arith, l))
below_within c a b (t ∷ ts) h zero d l = omega (arith, terms_bounds c (t.lit.var + 1) b ts h.1)
below_within c a b (t ∷ ts) h (suc k) d l = below_within c (t.lit.var + 1) b ts h.1 k d (omega (arith, l))

total_few : (a b : ℕ) (ts : List Term) → TermsWithin (2 ^ 40) a b ts → a * 2 ^ 40 + total ts ≤ b * 2 ^ 40
total_few a b [] h = omega (arith, h)
total_few a b (t ∷ ts) h = omega (arith, h.0.from, h.0.small, total_few (t.lit.var + 1) b ts h.1, sum_by-cons (λ (u : Term). u.coef) t ts)

-- terms by rising variable, with a small degree, are in normal form
pub normal_of_rising : (n m : ℕ) (ts : List Term) → IsRising n ts → n ≤ 2 ^ 20 → m < 2 ^ 63 → IsNormal ts m
normal_of_rising n m ts h few small = normal_within (2 ^ 40) 0 n m ts h.rises (omega (arith, total_few 0 n ts h.rises, few)) small
