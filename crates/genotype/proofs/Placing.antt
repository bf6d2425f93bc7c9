-- From the stable sort of the variables to their order.
use Rattle.std.proofs.Common.{◌≡◌, ◌≢◌, ℕ, zero, suc, ◌+◌, ◌-◌, ◌<◌, ◌≤◌, Bool, false, eqb, List, [], ◌∷◌, ◌++◌, length, map, get_or, refl, sym, ap, subst, ◌∙◌, arith, inl, inr, All, add-one, length-append, append_assoc}
use Rattle.std.specs.List.{range_with_len, IsDistinct, AllByRecursion}
use Rattle.std.specs.List.Sorted.{IsPermutation, IsNonDecreasingBy, IsSortedByKey}
use Rattle.std.specs.Ordering.{is_lt, nat_cmp}
use Rattle.std.proofs.lemmas.Bool.{cases_lt}
use Rattle.std.proofs.lemmas.Bool.Decides.{nat_tests, Decides-eqb}
use Rattle.std.proofs.lemmas.List.{get_or_past, get_or-map, get_or_append_left, get_or-append_right, map-append}
use Rattle.std.proofs.lemmas.List.FromFn.{length-map-range_with_len, get_or-map-range_with_len, map-range_with_len_more}
use Rattle.std.proofs.lemmas.List.Sorted.{IsPermutation-refl, IsPermutation-map, IsPermutation-append, All-permutation, length_permutation}
use Rattle.std.proofs.lemmas.Map.Keys.{IsDistinct-IsPermutation, IsDistinct-cons}
use Rattle.std.proofs.lemmas.Map.Made.{AllPairs-from_IsDistinct}
use Rattle.pb_rules.specs.Literal.{Literal}
use Rattle.spec_model.specs.Spec.{below}
use Rattle.spec_model.specs.Genotypes.{GeneValue, plain_gene, gene_at, StandsBefore}
use Rattle.genotype.specs.Genes.{HasPriority}
use Rattle.variable_order.specs.Order.{var_of, IsOrder}
use Rattle.genotype.specs.Order.{IsOrderOf}
use Rattle.genotype.specs.Placing.{literal_at, other_literal, literals_of, lateness, IsLed}
use Rattle.plain_lists.proofs.Numbers.{eqb_comm}

-- ---- the variables of the literals

vars_of : (f : ℕ → Literal) → ((v : ℕ) → var_of (f v) ≡ v) → (a n : ℕ) → map var_of (map f (range_with_len a n)) ≡ range_with_len a n
vars_of f same a zero = refl
vars_of f same a (suc n) = ap (λ (rest : List ℕ). var_of (f a) ∷ rest) (vars_of f same (a + 1) n) ∙ ap (λ (v : ℕ). v ∷ range_with_len (a + 1) n) (same a)

range-append : (a n m : ℕ) → range_with_len a n ++ range_with_len (a + n) m ≡ range_with_len a (n + m)
range-append a zero m = ap (λ (k : ℕ). range_with_len k m) (omega arith) ∙ ap (range_with_len a) (omega arith)
range-append a (suc n) m =
    let here : a + suc n ≡ a + 1 + n = omega arith in
    let all : suc (n + m) ≡ suc n + m = omega arith in
    ap (λ (k : ℕ). a ∷ (range_with_len (a + 1) n ++ range_with_len k m)) here ∙ ap (λ (rest : List ℕ). a ∷ rest) (range-append (a + 1) n m) ∙ ap (range_with_len a) all

-- ---- no variable stands twice

other_number : (a b : ℕ) → a < b → eqb a b ≡ false
other_number a b lt = grind (arith, nat_tests)

apart : (a b n : ℕ) → a < b → AllByRecursion (λ y. eqb a y ≡ false) (range_with_len b n)
apart a b zero lt = tt
apart a b (suc n) lt = (other_number a b lt, apart a (b + 1) n (omega (arith, lt)))

distinct_none : IsDistinct eqb []
unfolding IsDistinct
distinct_none = tt

distinct_range : (a n : ℕ) → IsDistinct eqb (range_with_len a n)
distinct_range a zero = distinct_none
distinct_range a (suc n) = IsDistinct-cons eqb a (range_with_len (a + 1) n) (apart a (a + 1) n (omega arith)) (distinct_range (a + 1) n)

differ : (genes : List GeneValue) (order : List Literal) → IsPermutation (literals_of genes) order → (i j : ℕ) (d : Literal) → i < j → j < length order
    → var_of (get_or order i d) ≢ var_of (get_or order j d)
differ genes order p i j d lt within e =
    let vars = map var_of order in
    let own = literals_of genes in
    let start : IsDistinct eqb (map var_of own) = subst (IsDistinct eqb) (sym (vars_of (literal_at genes) (λ v. refl) 0 (length genes))) (distinct_range 0 (length genes)) in
    let distinct = IsDistinct-IsPermutation eqb eqb_comm (map var_of own) vars (IsPermutation-map var_of own order p) start in
    let len : length vars ≡ length order = length_map order in
    AllPairs-from_IsDistinct Decides-eqb vars distinct i j 0 lt (omega (arith, len, within))
    (get_or-map var_of order i d 0 (omega (arith, lt, within)) ∙ e ∙ sym (get_or-map var_of order j d 0 within))
  where
    length_map : (xs : List Literal) → length (map var_of xs) ≡ length xs
    length_map [] = refl
    length_map (x ∷ xs) = omega (arith, length_map xs)

-- ---- one stands before another

pub stands_trans : (genes : List GeneValue) (u v w : ℕ) → StandsBefore genes u v → StandsBefore genes v w → StandsBefore genes u w
stands_trans genes u v w (inl a) (inl b) = inl (omega (arith, a, b))
stands_trans genes u v w (inl a) (inr b) = inl (omega (arith, a, b.0))
stands_trans genes u v w (inr a) (inl b) = inl (omega (arith, a.0, b))
stands_trans genes u v w (inr a) (inr b) = inr (a.0 ∙ b.0, omega (arith, a.1, b.1))

-- what holds of neighbours holds of all pairs
pairs : (genes : List GeneValue) (at : ℕ → ℕ) (n : ℕ) → ((k : ℕ) → k + 1 < n → StandsBefore genes (at k) (at (k + 1)))
    → (j i : ℕ) → i < j → j < n → StandsBefore genes (at i) (at j)
pairs genes at n near zero i lt within = absurd (omega (arith, lt))
pairs genes at n near (suc m) i lt within =
    let last : StandsBefore genes (at m) (at (suc m)) = subst (λ (k : ℕ). StandsBefore genes (at m) (at k)) (add-one m) (near m (omega (arith, within))) in
    elim (cases_lt i m) [
      | inl low ↦ stands_trans genes (at i) (at m) (at (suc m)) (pairs genes at n near m i low (omega (arith, within))) last
      | inr high ↦ let same : m ≡ i = omega (arith, lt, high) in subst (λ (k : ℕ). StandsBefore genes (at k) (at (suc m))) same last
    ]

-- a gene's priority has 32 bits, also that of a variable that has none
small_at : (genes : List GeneValue) → All HasPriority genes → (v : ℕ) → (gene_at genes v).priority ≤ 4294967295
small_at genes small v =
    elim (cases_lt v (length genes)) [
      | inl lt ↦ omega (arith, small v plain_gene lt)
      | inr ge ↦ let none : (gene_at genes v).priority ≡ 0 = ap (λ (g : GeneValue). g.priority) (get_or_past genes v plain_gene ge) in omega (arith, none)
    ]

-- the less late stands before, and of two equally late ones the one with the lower number
nearer : (genes : List GeneValue) (v w : ℕ) → (gene_at genes v).priority ≤ 4294967295 → (gene_at genes w).priority ≤ 4294967295
    → 4294967295 - (gene_at genes v).priority ≤ 4294967295 - (gene_at genes w).priority
    → (4294967295 - (gene_at genes v).priority ≡ 4294967295 - (gene_at genes w).priority → v ≤ w) → v ≢ w → StandsBefore genes v w
nearer genes v w a b le ties apart =
    elim (cases_lt (gene_at genes w).priority (gene_at genes v).priority) [
      | inl lower ↦ inl lower
      | inr high ↦
          let same : (gene_at genes v).priority ≡ (gene_at genes w).priority = omega (arith, a, b, le, high) in
          let number : v ≤ w = ties (ap (λ (p : ℕ). 4294967295 - p) same) in
          elim (cases_lt v w) [
            | inl lt ↦ inr (same, lt)
            | inr ge ↦ absurd (apart (omega (arith, number, ge)))
          ]
    ]

-- the variables with genes, sorted by how late they are, where equally late ones stay in the order of their numbers
pub led : (genes : List GeneValue) (order : List Literal) → All HasPriority genes → IsPermutation (literals_of genes) order → IsNonDecreasingBy (lateness genes) order
    → ((k : ℕ) (d : Literal) → k + 1 < length order → lateness genes (get_or order k d) ≡ lateness genes (get_or order (k + 1) d) → var_of (get_or order k d) ≤ var_of (get_or order (k + 1) d))
    → IsLed genes order
led genes order small p rising ties =
    let len : length order ≡ length genes = length_permutation (literals_of genes) order p ∙ length-map-range_with_len (literal_at genes) 0 (length genes) in
    record {
      permutation = p;
      stands = λ i j d lt within. pairs genes (λ k. var_of (get_or order k d)) (length order)
          (λ k near. nearer genes (var_of (get_or order k d)) (var_of (get_or order (k + 1) d)) (small_at genes small _) (small_at genes small _)
          (rising k (k + 1) d (omega arith) near) (ties k d near) (differ genes order p k (k + 1) d (omega arith) near))
          j i lt (omega (arith, len, within));
    }

-- the same of the variables by number: their numbers rise
by_number_rising : (genes : List GeneValue) → IsNonDecreasingBy var_of (literals_of genes)
by_number_rising genes i j d le within =
    let len : length (literals_of genes) ≡ length genes = length-map-range_with_len (literal_at genes) 0 (length genes) in
    let at_i = get_or-map-range_with_len (literal_at genes) 0 (length genes) i i d (omega (arith, le, within, len)) (omega arith) in
    let at_j = get_or-map-range_with_len (literal_at genes) 0 (length genes) j j d (omega (arith, within, len)) (omega arith) in
    rw (at_i, at_j) le

pub by_number_sorted : (genes : List GeneValue) → IsSortedByKey var_of nat_cmp (literals_of genes)
by_number_sorted genes k d low near =
    sorted_pair (var_of (get_or (literals_of genes) k d)) (var_of (get_or (literals_of genes) (k + 1) d)) (by_number_rising genes k (k + 1) d (omega arith) near)
  where
    sorted_pair : (a b : ℕ) → a ≤ b → is_lt (nat_cmp b a) ≡ false
    sorted_pair a b le = grind (arith, nat_tests)

-- ---- the whole order

-- a literal of the variables with genes
pub record IsOwn (genes : List GeneValue) (l : Literal) : Type 0 where
  pub below : l.var < length genes
  pub phase : l.yes ≡ (gene_at genes l.var).phase

own_literals : (genes : List GeneValue) → All (IsOwn genes) (literals_of genes)
own_literals genes k d within =
    let len : length (literals_of genes) ≡ length genes = length-map-range_with_len (literal_at genes) 0 (length genes) in
    let lt : k < length genes = omega (arith, within, len) in
    let at_k : get_or (literals_of genes) k d ≡ literal_at genes k = get_or-map-range_with_len (literal_at genes) 0 (length genes) k k d lt (omega arith) in
    subst (IsOwn genes) (sym at_k) (record { below = lt; phase = refl })

-- the variables with genes in their order, and then the others by number
pub order_is : (genes : List GeneValue) (variables : ℕ) (front order : List Literal) → length genes ≤ variables → IsLed genes front
    → order ≡ front ++ map other_literal (range_with_len (length front) (variables - length front)) → IsOrderOf genes variables order
order_is genes variables front order fits led is =
    let n = length genes in
    let own = literals_of genes in
    let count : length front ≡ n = length_permutation own front led.permutation ∙ length-map-range_with_len (literal_at genes) 0 n in
    let more = variables - length front in
    let others = map other_literal (range_with_len (length front) more) in
    let others_len : length others ≡ more = length-map-range_with_len other_literal (length front) more in
    let total : length order ≡ variables = ap length is ∙ omega (arith, length-append front others, others_len, count, fits) in
    let owns : All (IsOwn genes) front = All-permutation (IsOwn genes) own front led.permutation (own_literals genes) in
    let front_at : (i : ℕ) (d : Literal) → i < n → get_or order i d ≡ get_or front i d = λ i d lt. ap (λ (xs : List Literal). get_or xs i d) is
    ∙ get_or_append_left front others d i (omega (arith, lt, count)) in
    let own_at : (i : ℕ) (d : Literal) → i < n → IsOwn genes (get_or order i d) = λ i d lt. subst (IsOwn genes) (sym (front_at i d lt)) (owns i d (omega (arith, lt, count))) in
    record {
      len = total;
      each_once = once genes variables front order fits led is count total;
      leads = λ i d lt. (own_at i d lt).below;
      stands = λ i j d lt within. subst (λ (l : Literal). StandsBefore genes (var_of l) (var_of (get_or order j d))) (sym (front_at i d (omega (arith, lt, within))))
          (subst (λ (l : Literal). StandsBefore genes (var_of (get_or front i d)) (var_of l)) (sym (front_at j d within)) (led.stands i j d lt within));
      phases = λ i d lt. (own_at i d lt).phase;
      rest = λ i d from below_all. ap (λ (xs : List Literal). get_or xs i d) is ∙ get_or-append_right front others (length front) i d refl (omega (arith, from, count))
          ∙ get_or-map-range_with_len other_literal (length front) more (i - length front) i d (omega (arith, from, below_all, count, fits)) (omega (arith, from, count));
    }
  where
    once : (genes : List GeneValue) (variables : ℕ) (front order : List Literal) → length genes ≤ variables → IsLed genes front
        → order ≡ front ++ map other_literal (range_with_len (length front) (variables - length front)) → length front ≡ length genes → length order ≡ variables → IsOrder order
    once genes variables front order fits led is count total =
        let n = length genes in
        let own = literals_of genes in
        let more = variables - length front in
        let others = map other_literal (range_with_len (length front) more) in
        let first : IsPermutation (range_with_len 0 n) (map var_of front) =
        subst (λ (xs : List ℕ). IsPermutation xs (map var_of front)) (vars_of (literal_at genes) (λ v. refl) 0 n) (IsPermutation-map var_of own front led.permutation) in
        let second : IsPermutation (range_with_len (length front) more) (map var_of others) =
        subst (IsPermutation (range_with_len (length front) more)) (sym (vars_of other_literal (λ v. refl) (length front) more)) (IsPermutation-refl (range_with_len (length front) more)) in
        let joined = IsPermutation-append (range_with_len 0 n) (map var_of front) (range_with_len (length front) more) (map var_of others) first second in
        let start : length front ≡ 0 + n = omega (arith, count) in
        let numbers : range_with_len 0 n ++ range_with_len (length front) more ≡ below (length order) =
        ap (λ (k : ℕ). range_with_len 0 n ++ range_with_len k more) start ∙ range-append 0 n more ∙ ap (range_with_len 0) (omega (arith, count, total, fits)) in
        let literals : map var_of front ++ map var_of others ≡ map var_of order = sym (map-append var_of front others) ∙ ap (map var_of) (sym is) in
        subst (λ (xs : List ℕ). IsPermutation xs (map var_of order)) numbers (subst (IsPermutation (range_with_len 0 n ++ range_with_len (length front) more)) literals joined)

pub led_len : (genes : List GeneValue) (front : List Literal) → IsLed genes front → length front ≡ length genes
led_len genes front led = length_permutation (literals_of genes) front led.permutation ∙ length-map-range_with_len (literal_at genes) 0 (length genes)

-- ---- the loops

-- the literal of a variable and its gene's phase
pub phase_is : (genes : List GeneValue) (v : ℕ) (l : Literal) (phase : Bool) → l ≡ record { var = v; yes = phase } → phase ≡ (gene_at genes v).phase → l ≡ literal_at genes v
phase_is genes v l phase is same = is ∙ ap (λ (b : Bool). let made : Literal = record { var = v; yes = b } in made) same

-- one more variable with a gene
pub own_step : (genes : List GeneValue) (now next : List Literal) (l : Literal) (v : ℕ) → now ≡ map (literal_at genes) (below v) → next ≡ now ++ l ∷ [] → l ≡ literal_at genes v
    → next ≡ map (literal_at genes) (below (v + 1))
own_step genes now next l v so_far push is =
    push ∙ ap (λ (xs : List Literal). xs ++ l ∷ []) so_far ∙ ap (λ (x : Literal). map (literal_at genes) (below v) ++ x ∷ []) is
    ∙ sym (map-range_with_len_more (literal_at genes) 0 v v (omega arith))

-- one more of the other variables
pub others_step : (old now next : List Literal) (l : Literal) (start at : ℕ) → now ≡ old ++ map other_literal (range_with_len start (at - start)) → next ≡ now ++ l ∷ [] → l ≡ other_literal at
    → start ≤ at
    → next ≡ old ++ map other_literal (range_with_len start (at + 1 - start))
others_step old now next l start at so_far push is le =
    let before = map other_literal (range_with_len start (at - start)) in
    let count : at + 1 - start ≡ at - start + 1 = omega (arith, le) in
    let more : map other_literal (range_with_len start (at + 1 - start)) ≡ before ++ other_literal at ∷ [] =
    ap (λ (k : ℕ). map other_literal (range_with_len start k)) count ∙ map-range_with_len_more other_literal start (at - start) at (omega (arith, le)) in
    push ∙ ap (λ (xs : List Literal). xs ++ l ∷ []) so_far ∙ append_assoc old before (l ∷ []) ∙ ap (λ (x : Literal). old ++ (before ++ x ∷ [])) is ∙ ap (λ (xs : List Literal). old ++ xs) (sym more)
