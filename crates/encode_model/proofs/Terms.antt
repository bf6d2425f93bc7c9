-- How many terms the encoding has.
use Rattle.std.proofs.Common.{◌≡◌, ℕ, zero, suc, ◌+◌, ◌-◌, ◌*◌, ◌<◌, ◌≤◌, Bool, true, false, cond, List, [], ◌∷◌, ◌++◌, length, get_or, nat_eq, take, refl, sym, ap, ◌∙◌, subst, arith, add-one, length-append}
use Rattle.std.specs.Prelude.{map, ◌&&◌, ◌||◌, nat_lt}
use Rattle.std.specs.List.{sum_by, flat_map, list_any}
use Rattle.std.proofs.lemmas.List.Sums.{sum_by-append, sum_by-cons, sum_by_more}
use Rattle.std.proofs.lemmas.List.{length-map, take_all}
use Rattle.std.proofs.lemmas.List.FromFn.{length-range_with_len}
use Rattle.std.proofs.lemmas.Nat.{mul-le}
use Rattle.std.proofs.lemmas.Bool.{false≢true}
use Rattle.std.proofs.lemmas.Bool.Decides.{nat_tests}
use Rattle.pb_rules.specs.declared.Term.{Term}
use Rattle.pb_rules.specs.Linear.{Linear}
use Rattle.spec_model.specs.Spec.{SpecValue, Message, below, those, message_at, arc_at, option_at, arc_var, resource_var, link_var, step_var, covered_var}
use Rattle.spec_model.specs.Rules.{of_task, of_task_on, options_of, goes_into, leaves, of_link, arcs_into, arcs_from, arcs_of, sender_of}
use Rattle.spec_model.specs.WellFormed.{IsWellFormed, size, message_size, option_count}
use Rattle.spec_model.proofs.Counts.{bit}
use Rattle.spec_model.proofs.Those.{those_more, sum_by-below_more, below_more, map-below_more, flat_map-below_more}
use Rattle.encode_model.specs.Encoding.{put, by_variable, at_least, positive, negative, positives, negatives, option_on, on_resource, options_on, is_number, for_receiver, receiver_options, arc_vars, steps_from, step_after, one_option, sender_start, option_covers, receiver_covered, receivers_covered, covered_once, one_arc_in, carries, arc_carries, leads_to, neighbours, step_at, has_cause, steps_have_cause, no_dangling, resources_of, messages_of, routes_of, message_part, option_allocates, cover_allocates, covers_allocate, cover_of, resource_has_use, arc_allocates, arcs_allocate, link_arcs, link_has_use, allocation, options_chosen, encoding}

-- the terms of a list of constraints
abbrev pub terms_of : List Linear → ℕ
terms_of cs = sum_by (λ c. length c.terms) cs

terms-cons : (c : Linear) (cs : List Linear) → terms_of (c ∷ cs) ≡ length c.terms + terms_of cs
terms-cons c cs = sum_by-cons (λ (d : Linear). length d.terms) c cs

terms-append : (cs ds : List Linear) → terms_of (cs ++ ds) ≡ terms_of cs + terms_of ds
terms-append cs ds = sum_by-append (λ (d : Linear). length d.terms) cs ds

-- sums over the numbers below n
sum-below_suc : (f : ℕ → ℕ) (n : ℕ) → sum_by f (below (suc n)) ≡ sum_by f (below n) + f n
sum-below_suc f n =
    subst (λ (k : ℕ). sum_by f (below k) ≡ sum_by f (below n) + f n) (add-one n) (sum_by-below_more f n)

-- a bound that splits over the numbers
sum-le : (f g : ℕ → ℕ) (n : ℕ) → ((i : ℕ) → i < n → f i ≤ g i) → sum_by f (below n) ≤ sum_by g (below n)
sum-le f g zero h = omega arith
sum-le f g (suc n) h = omega (arith, sum-below_suc f n, sum-below_suc g n, h n (omega arith), sum-le f g n (λ i l. h i (omega arith)))

sum_plus : (f g : ℕ → ℕ) (n : ℕ) → sum_by (λ i. f i + g i) (below n) ≡ sum_by f (below n) + sum_by g (below n)
sum_plus f g zero = refl
sum_plus f g (suc n) = omega (arith, sum-below_suc f n, sum-below_suc g n, sum-below_suc (λ i. f i + g i) n, sum_plus f g n)

sum_same : (k n : ℕ) → sum_by (λ i. k) (below n) ≡ n * k
sum_same k zero = omega arith
sum_same k (suc n) = omega (arith, sum-below_suc (λ i. k) n, sum_same k n, times n k)
  where
    times : (n k : ℕ) → suc n * k ≡ n * k + k
    times n k = omega arith

sum_times : (k : ℕ) (f : ℕ → ℕ) (n : ℕ) → sum_by (λ i. k * f i) (below n) ≡ k * sum_by f (below n)
sum_times k f zero = omega arith
sum_times k f (suc n) = omega (arith, sum-below_suc (λ i. k * f i) n, sum-below_suc f n, sum_times k f n, ap (λ (x : ℕ). k * x) (sum-below_suc f n), spread k (sum_by f (below n)) (f n))
  where
    spread : (k a b : ℕ) → k * (a + b) ≡ k * a + k * b
    spread k a b = omega arith

-- the same over any list
sum-list_times : {X : Type 0} (k : ℕ) (f : X → ℕ) (xs : List X) → sum_by (λ x. k * f x) xs ≡ k * sum_by f xs
sum-list_times k f [] = omega arith
sum-list_times k f (x ∷ xs) = omega (arith, sum_by-cons (λ y. k * f y) x xs, sum_by-cons f x xs, sum-list_times k f xs, ap (λ (n : ℕ). k * n) (sum_by-cons f x xs), spread k (f x) (sum_by f xs))
  where
    spread : (k a b : ℕ) → k * (a + b) ≡ k * a + k * b
    spread k a b = omega arith

-- the terms of a list of pieces
pieces_terms : {X : Type 0} (g : X → List Linear) (xs : List X) → terms_of (flat_map g xs) ≡ sum_by (λ x. terms_of (g x)) xs
pieces_terms g [] = refl
pieces_terms g (x ∷ xs) = omega (arith, terms-append (g x) (flat_map g xs), pieces_terms g xs, sum_by-cons (λ y. terms_of (g y)) x xs)

ones_terms : {X : Type 0} (g : X → Linear) (xs : List X) → terms_of (map g xs) ≡ sum_by (λ x. length (g x).terms) xs
ones_terms g [] = refl
ones_terms g (x ∷ xs) = omega (arith, terms-cons (g x) (map g xs), ones_terms g xs, sum_by-cons (λ y. length (g y).terms) x xs)

-- the terms of one constraint
length_put : (t : Term) (ts : List Term) → length (put t ts) ≡ length (t ∷ ts)
length_put t [] = refl
length_put t (u ∷ us) = at (nat_lt t.lit.var u.lit.var) (length_put t us)
  where
    at : (b : Bool) → length (put t us) ≡ length (t ∷ us) → length (cond b (t ∷ (u ∷ us)) (u ∷ put t us)) ≡ length (t ∷ (u ∷ us))
    at true e = refl
    at false e = omega (arith, e)

length-by_variable : (ts : List Term) → length (by_variable ts) ≡ length ts
length-by_variable [] = refl
length-by_variable (t ∷ ts) = omega (arith, length_put t (by_variable ts), length-by_variable ts)

pub length-at_least : (n : ℕ) (ts : List Term) → length (at_least n ts).terms ≡ length ts
unfolding at_least
length-at_least n ts = length-by_variable ts

two_terms : (n m : ℕ) (ls ks : List Term) → terms_of (at_least n ls ∷ (at_least m ks ∷ [])) ≡ length ls + length ks
two_terms n m ls ks = omega (arith, terms-cons (at_least n ls) (at_least m ks ∷ []), terms-cons (at_least m ks) [], length-at_least n ls, length-at_least m ks)

-- how many pass
length-those_suc : (p : ℕ → Bool) (n : ℕ) → length (those p (suc n)) ≡ length (those p n) + cond (p n) 1 0
length-those_suc p n =
    let at : length (those p (n + 1)) ≡ length (those p n) + cond (p n) 1 0 = ap length (those_more p n)
    ∙ (length-append (those p n) (cond (p n) (n ∷ []) []) ∙ ap (λ (k : ℕ). length (those p n) + k) (one (p n))) in
    subst (λ (k : ℕ). length (those p k) ≡ length (those p n) + cond (p n) 1 0) (add-one n) at
  where
    one : (b : Bool) → length (cond b (n ∷ []) []) ≡ cond b 1 0
    one true = refl
    one false = refl

abbrev hit : ℕ → ℕ → ℕ
hit k r = cond (nat_eq k r) 1 0

-- a number is met once at most
met : (k n : ℕ) → (n ≤ k → sum_by (hit k) (below n) ≡ 0) × (sum_by (hit k) (below n) ≤ 1)
met k zero = (λ h. refl, omega arith)
met k (suc n) = at (nat_eq k n) refl (met k n)
  where
    at : (b : Bool) → nat_eq k n ≡ b → (n ≤ k → sum_by (hit k) (below n) ≡ 0) × (sum_by (hit k) (below n) ≤ 1) → (suc n ≤ k → sum_by (hit k) (below (suc n)) ≡ 0) × (sum_by (hit k) (below (suc n)) ≤ 1)
    at true e before =
        let same : k ≡ n = grind (arith, nat_tests, e) in
        let none = before.0 (omega (arith, same)) in
        (λ h. absurd (omega (arith, h, same)), omega (arith, none, sum-below_suc (hit k) n, as_one (nat_eq k n) e))
      where
        as_one : (b : Bool) → b ≡ true → cond b 1 0 ≤ 1
        as_one true e = omega arith
        as_one false e = omega arith
    at false e before =
        (λ h. omega (arith, before.0 (omega (arith, h)), sum-below_suc (hit k) n, as_none (nat_eq k n) e), omega (arith, before.1, sum-below_suc (hit k) n, as_none (nat_eq k n) e))
      where
        as_none : (b : Bool) → b ≡ false → cond b 1 0 ≤ 0
        as_none false e = omega arith
        as_none true e = absurd (false≢true (sym e))

met_of : (b : Bool) (k n : ℕ) → sum_by (λ r. cond (b && nat_eq k r) 1 0) (below n) ≤ cond b 1 0
met_of true k n = (met k n).1
met_of false k n = omega (arith, sum_same 0 n)

-- those of each class are together no more than all
classes : (p : ℕ → Bool) (key : ℕ → ℕ) (count n : ℕ) → sum_by (λ r. length (those (λ i. p i && nat_eq (key i) r) count)) (below n) ≤ length (those p count)
classes p key zero n = omega (arith, sum_same 0 n)
classes p key (suc count) n =
    let one : (r : ℕ) → length (those (λ i. p i && nat_eq (key i) r) (suc count)) ≤ length (those (λ i. p i && nat_eq (key i) r) count) + cond (p count && nat_eq (key count) r) 1 0 =
    λ r. omega (arith, length-those_suc (λ i. p i && nat_eq (key i) r) count) in
    omega (
      arith,
      sum-le (λ r. length (those (λ i. p i && nat_eq (key i) r) (suc count))) (λ r. length (those (λ i. p i && nat_eq (key i) r) count) + cond (p count && nat_eq (key count) r) 1 0) n
          (λ r l. one r),
      sum_plus (λ r. length (those (λ i. p i && nat_eq (key i) r) count)) (λ r. cond (p count && nat_eq (key count) r) 1 0) n,
      classes p key count n,
      met_of (p count) (key count) n,
      length-those_suc p count,
    )

abbrev always : ℕ → Bool
always i = true

length-always : (n : ℕ) → length (those always n) ≡ n
length-always zero = refl
length-always (suc n) = omega (arith, length-those_suc always n, length-always n)

all_classes : (key : ℕ → ℕ) (count n : ℕ) → sum_by (λ r. length (those (λ i. nat_eq (key i) r) count)) (below n) ≤ count
all_classes key count n = omega (arith, classes always key count n, length-always count)

-- those that pass one of two tests
either : (p q : ℕ → Bool) (n : ℕ) → length (those (λ i. p i || q i) n) ≤ length (those p n) + length (those q n)
either p q zero = omega arith
either p q (suc n) = omega (arith, length-those_suc (λ i. p i || q i) n, length-those_suc p n, length-those_suc q n, either p q n, at (p n) (q n))
  where
    at : (a b : Bool) → cond (a || b) 1 0 ≤ cond a 1 0 + cond b 1 0
    at true b = omega arith
    at false b = omega arith

one_number : (k n : ℕ) → length (those (nat_eq k) n) ≤ 1
one_number k n = omega (arith, as_sum n, (met k n).1)
  where
    as_sum : (n : ℕ) → length (those (nat_eq k) n) ≡ sum_by (hit k) (below n)
    as_sum zero = refl
    as_sum (suc n) = omega (arith, length-those_suc (nat_eq k) n, sum-below_suc (hit k) n, as_sum n)

few_neighbours : (s : SpecValue) (q : ℕ) → length (neighbours s q) ≤ length (arcs_into s q)
unfolding leads_to leaves
few_neighbours s q = few (arcs_into s q)
  where
    few : (xs : List ℕ) → length (those (λ p. list_any (λ a. nat_eq (arc_at s a).tail p) xs) (length s.resources)) ≤ length xs
    few [] = omega (arith, none (length s.resources))
      where
        none : (n : ℕ) → length (those (λ p. false) n) ≡ 0
        none zero = refl
        none (suc n) = omega (arith, length-those_suc (λ p. false) n, none n)
    few (x ∷ xs) = omega (arith, few xs, one_number (arc_at s x).tail (length s.resources), either (nat_eq (arc_at s x).tail) (λ p. list_any (λ a. nat_eq (arc_at s a).tail p) xs) (length s.resources))

-- the options of a message's receivers, counted by receiver
for_some : (s : SpecValue) (ws : List ℕ) → length (those (λ o. list_any (is_number (option_at s o).task) ws) (length s.options)) ≤ sum_by (option_count s) ws
unfolding of_task
for_some s [] = omega (arith, none (length s.options))
  where
    none : (n : ℕ) → length (those (λ p. false) n) ≡ 0
    none zero = refl
    none (suc n) = omega (arith, length-those_suc (λ p. false) n, none n)
for_some s (w ∷ ws) =
    omega (
      arith,
      for_some s ws,
      sum_by-cons (option_count s) w ws,
      turned (length s.options),
      either (λ o. nat_eq w (option_at s o).task) (λ o. list_any (is_number (option_at s o).task) ws)
          (length s.options),
    )
  where
    turn : (a b : ℕ) → nat_eq a b ≡ nat_eq b a
    turn a b = grind (arith, nat_tests)

    turned : (n : ℕ) → length (those (λ o. nat_eq w (option_at s o).task) n) ≡ length (those (of_task s w) n)
    turned zero = refl
    turned (suc n) = omega (arith, turned n, length-those_suc (λ o. nat_eq w (option_at s o).task) n, length-those_suc (of_task s w) n, ap bit (turn w (option_at s n).task))

-- The families. O, A, R, L and M are the numbers of options, arcs, resources, links and messages.
chosen-terms : (s : SpecValue) → terms_of (options_chosen s) ≤ 2 * length s.options
unfolding of_task
chosen-terms s =
    omega (
      arith,
      pieces_terms (one_option s) (below (length s.tasks)),
      sum-le (λ t. terms_of (one_option s t)) (λ t. 2 * length (options_of s t)) (length s.tasks) (λ t l.
          omega (
            arith,
            two_terms 1 (length (options_of s t) - 1) (positives (options_of s t)) (negatives (options_of s t)),
            length-map (options_of s t) positive,
            length-map (options_of s t) negative,
          )),
      sum_times 2 (λ t. length (options_of s t)) (length s.tasks),
      all_classes (λ o. (option_at s o).task) (length s.options) (length s.tasks),
    )

module _ (s : SpecValue) (m : ℕ) where
  abbrev limit : ℕ
  limit = (message_at s m).limit

  abbrev resources : ℕ
  resources = length s.resources

  abbrev arcs : ℕ
  arcs = length s.arcs

  length_steps : (r from : ℕ) → length (steps_from s m r from) ≡ limit + 1 - from
  length_steps r from = length-map (below (limit + 1 - from)) (step_after s m r from) ∙ length-range_with_len 0 (limit + 1 - from)

  starts_terms : terms_of (flat_map (sender_start s m) (resources_of s)) ≤ 2 * option_count s (sender_of s m) + resources * 2
  unfolding of_task of_task_on
  starts_terms =
      omega (
        arith,
        pieces_terms (sender_start s m) (resources_of s),
        sum-le (λ r. terms_of (sender_start s m r)) (λ r. 2 * length (option_on s (sender_of s m) r) + 2) resources (λ r l. one r),
        sum_plus (λ r. 2 * length (option_on s (sender_of s m) r)) (λ r. 2) resources,
        sum_times 2 (λ r. length (option_on s (sender_of s m) r)) resources,
        sum_same 2 resources,
        classes (λ o. nat_eq (option_at s o).task (sender_of s m)) (λ o. (option_at s o).resource) (length s.options) resources,
      )
    where
      one : (r : ℕ) → terms_of (sender_start s m r) ≤ 2 * length (option_on s (sender_of s m) r) + 2
      one r =
          let p = option_on s (sender_of s m) r in
          let h = step_var s m r 0 in
          omega (
            arith,
            two_terms (length p) 1 (negatives p ++ positive h ∷ []) (positives p ++ negative h ∷ []),
            length-append (negatives p) (positive h ∷ []),
            length-append (positives p) (negative h ∷ []),
            length-map p positive,
            length-map p negative,
          )

  receivers-terms : terms_of (receivers_covered s m) ≤ 2 * sum_by (option_count s) (message_at s m).receivers
  unfolding option_covers
  receivers-terms =
      omega (arith, pieces_terms (receiver_covered s m) (message_at s m).receivers, each (message_at s m).receivers, sum-list_times 2 (option_count s) (message_at s m).receivers)
    where
      pairs : (os : List ℕ) → terms_of (map (option_covers s m) os) ≡ 2 * length os
      pairs [] = omega arith
      pairs (o ∷ os) =
          omega (arith, terms-cons (option_covers s m o) (map (option_covers s m) os), length-at_least 1 (negative o ∷ (positive (covered_var s m (option_at s o).resource) ∷ [])), pairs os)

      each : (ws : List ℕ) → sum_by (λ w. terms_of (receiver_covered s m w)) ws ≡ sum_by (λ w. 2 * option_count s w) ws
      each [] = refl
      each (w ∷ ws) = omega (arith, sum_by-cons (λ w. terms_of (receiver_covered s m w)) w ws, sum_by-cons (λ w. 2 * option_count s w) w ws, each ws, pairs (options_of s w))

  covers_terms : terms_of (flat_map (covered_once s m) (resources_of s)) ≤ resources * (2 * limit + 4)
  covers_terms =
      omega (arith, pieces_terms (covered_once s m) (resources_of s), sum-le (λ r. terms_of (covered_once s m r)) (λ r. 2 * limit + 4) resources (λ r l. one r), sum_same (2 * limit + 4) resources)
    where
      one : (r : ℕ) → terms_of (covered_once s m r) ≤ 2 * limit + 4
      one r =
          let xs = steps_from s m r 0 in
          let c = covered_var s m r in
          omega (
            arith,
            two_terms (limit + 1) 1 (negatives xs ++ positive c ∷ []) (positives xs ++ negative c ∷ []),
            length-append (negatives xs) (positive c ∷ []),
            length-append (positives xs) (negative c ∷ []),
            length-map xs positive,
            length-map xs negative,
            length_steps r 0,
          )

  into_all : sum_by (λ r. length (arcs_into s r)) (resources_of s) ≤ arcs
  unfolding goes_into
  into_all = all_classes (λ a. (arc_at s a).head) arcs resources

  arcs_in-terms : terms_of (flat_map (one_arc_in s m) (resources_of s)) ≤ 2 * arcs + resources * (2 * limit)
  arcs_in-terms =
      omega (
        arith,
        pieces_terms (one_arc_in s m) (resources_of s),
        sum-le (λ r. terms_of (one_arc_in s m r)) (λ r. 2 * length (arcs_into s r) + 2 * limit) resources (λ r l. one r),
        sum_plus (λ r. 2 * length (arcs_into s r)) (λ r. 2 * limit) resources,
        sum_times 2 (λ r. length (arcs_into s r)) resources,
        sum_same (2 * limit) resources,
        into_all,
      )
    where
      one : (r : ℕ) → terms_of (one_arc_in s m r) ≤ 2 * length (arcs_into s r) + 2 * limit
      one r =
          let xs = steps_from s m r 1 in
          let us = arc_vars s m (arcs_into s r) in
          omega (
            arith,
            two_terms limit (length (arcs_into s r)) (positives us ++ negatives xs) (negatives us ++ positives xs),
            length-append (positives us) (negatives xs),
            length-append (negatives us) (positives xs),
            length-map xs positive,
            length-map xs negative,
            length-map us positive,
            length-map us negative,
            length-map (arcs_into s r) (arc_var s m),
            length_steps r 1,
          )

  carries-terms : terms_of (flat_map (arc_carries s m) (below arcs)) ≤ arcs * (3 * limit + 4)
  unfolding carries
  carries-terms =
      omega (arith, pieces_terms (arc_carries s m) (below arcs), sum-le (λ a. terms_of (arc_carries s m a)) (λ a. 3 * limit + 4) arcs (λ a l. one a), sum_same (3 * limit + 4) arcs)
    where
      one : (a : ℕ) → terms_of (arc_carries s m a) ≤ 3 * limit + 4
      one a =
          let u = arc_var s m a in
          let p = (arc_at s a).tail in
          let q = (arc_at s a).head in
          omega (
            arith,
            terms-append (map (carries s m a) (below limit)) (at_least 1 (negative u ∷ (positive (covered_var s m p) ∷ [])) ∷ (at_least 1 (negative u ∷ (negative (step_var s m p limit) ∷ [])) ∷ [])),
            two_terms 1 1 (negative u ∷ (positive (covered_var s m p) ∷ [])) (negative u ∷ (negative (step_var s m p limit) ∷ [])),
            ones_terms (carries s m a) (below limit),
            sum-le (λ t. length (carries s m a t).terms) (λ t. 3) limit (λ t l. omega (
              arith,
              length-at_least 1
                  (negative u ∷ (negative (step_var s m p t) ∷ (positive (step_var s m q (t + 1)) ∷ []))),
            )),
            sum_same 3 limit,
          )

  causes_terms : terms_of (flat_map (steps_have_cause s m) (resources_of s)) ≤ resources * limit + limit * arcs
  unfolding has_cause
  causes_terms =
      omega (
        arith,
        pieces_terms (steps_have_cause s m) (resources_of s),
        sum-le (λ q. terms_of (steps_have_cause s m q)) (λ q. limit + limit * length (arcs_into s q)) resources (λ q l. one q),
        sum_plus (λ q. limit) (λ q. limit * length (arcs_into s q)) resources,
        sum_same limit resources,
        sum_times limit (λ q. length (arcs_into s q)) resources,
        mul-le_right limit (sum_by (λ r. length (arcs_into s r)) (resources_of s)) arcs into_all,
      )
    where
      mul-le_right : (k a b : ℕ) → a ≤ b → k * a ≤ k * b
      mul-le_right k a b h = mul-le k a k b (omega arith) h

      each : (q t : ℕ) → length (has_cause s m q t).terms ≤ 1 + length (arcs_into s q)
      each q t = omega (
        arith,
        length-at_least 1 (negative (step_var s m q (t + 1)) ∷ positives (map (step_at s m t) (neighbours s q))),
        length-map (map (step_at s m t) (neighbours s q)) positive,
        length-map (neighbours s q) (step_at s m t),
        few_neighbours s q,
      )

      one : (q : ℕ) → terms_of (steps_have_cause s m q) ≤ limit + limit * length (arcs_into s q)
      one q = omega (
        arith,
        ones_terms (has_cause s m q) (below limit),
        sum-le (λ t. length (has_cause s m q t).terms) (λ t. 1 + length (arcs_into s q)) limit (λ t l. each q t),
        sum_same (1 + length (arcs_into s q)) limit,
        spread limit (length (arcs_into s q)),
      )
        where
          spread : (k a : ℕ) → k * (1 + a) ≡ k + k * a
          spread k a = omega arith

  ends_terms : terms_of (flat_map (no_dangling s m) (resources_of s)) ≤ sum_by (option_count s) (message_at s m).receivers + arcs + resources * 2
  unfolding for_receiver leaves
  ends_terms =
      omega (
        arith,
        pieces_terms (no_dangling s m) (resources_of s),
        sum-le (λ r. terms_of (no_dangling s m r)) (λ r. length (receiver_options s m r) + length (arcs_from s r) + 2) resources (λ r l. one r),
        sum_plus (λ r. length (receiver_options s m r) + length (arcs_from s r)) (λ r. 2) resources,
        sum_plus (λ r. length (receiver_options s m r)) (λ r. length (arcs_from s r)) resources,
        sum_same 2 resources,
        classes (λ o. list_any (is_number (option_at s o).task) (message_at s m).receivers) (λ o. (option_at s o).resource) (length s.options) resources,
        for_some s (message_at s m).receivers,
        all_classes (λ a. (arc_at s a).tail) arcs resources,
      )
    where
      one : (r : ℕ) → terms_of (no_dangling s m r) ≤ length (receiver_options s m r) + length (arcs_from s r) + 2
      one r =
          let ros = receiver_options s m r in
          let us = arc_vars s m (arcs_from s r) in
          let last : List Term = positive (step_var s m r 0) ∷ (negative (covered_var s m r) ∷ []) in
          omega (
            arith,
            terms-cons (at_least 1 (positives ros ++ positives us ++ last)) [],
            length-at_least 1 (positives ros ++ positives us ++ last),
            length-append (positives ros ++ positives us) last,
            length-append (positives ros) (positives us),
            length-map ros positive,
            length-map us positive,
            length-map (arcs_from s r) (arc_var s m),
          )

-- what allocates, and what uses what is allocated
allocation-terms : (s : SpecValue) → terms_of (allocation s) ≤ 3 * length s.options + length s.resources + length s.links + length s.messages * (3 * length s.resources + 3 * length s.arcs)
unfolding option_allocates cover_allocates resource_has_use cover_of arc_allocates link_has_use link_arcs on_resource of_link
allocation-terms s =
    omega (
      arith,
      terms-append (a ++ b ++ c ++ d) e,
      terms-append (a ++ b ++ c) d,
      terms-append (a ++ b) c,
      terms-append a b,
      options,
      covers,
      uses,
      arcs,
      links,
      spread (length s.messages) (length s.resources) (length s.arcs),
    )
  where
    a : List Linear
    a = map (option_allocates s) (below (length s.options))

    b : List Linear
    b = flat_map (covers_allocate s) (messages_of s)

    c : List Linear
    c = map (resource_has_use s) (resources_of s)

    d : List Linear
    d = flat_map (arcs_allocate s) (messages_of s)

    e : List Linear
    e = map (link_has_use s) (below (length s.links))

    spread : (m r a : ℕ) → m * (r * 2) + r * (1 + m) + m * (a * 2) + m * a ≡ r + m * (3 * r + 3 * a)
    spread m r a = omega arith

    options : terms_of a ≤ length s.options * 2
    options = omega (
      arith,
      ones_terms (option_allocates s) (below (length s.options)),
      sum-le (λ o. length (option_allocates s o).terms) (λ o. 2) (length s.options)
          (λ o l. omega (arith, length-at_least 1 (negative o ∷ (positive (resource_var s (option_at s o).resource) ∷ [])))),
      sum_same 2 (length s.options),
    )

    covers : terms_of b ≤ length s.messages * (length s.resources * 2)
    covers = omega (
      arith,
      pieces_terms (covers_allocate s) (messages_of s),
      sum-le (λ m. terms_of (covers_allocate s m)) (λ m. length s.resources * 2) (length s.messages)
          (λ m l. omega (
            arith,
            ones_terms (cover_allocates s m) (resources_of s),
            sum-le (λ r. length (cover_allocates s m r).terms) (λ r. 2) (length s.resources)
                (λ r k. omega (arith, length-at_least 1 (positive (resource_var s r) ∷ (negative (covered_var s m r) ∷ [])))),
            sum_same 2 (length s.resources),
          )),
      sum_same (length s.resources * 2) (length s.messages),
    )

    uses : terms_of c ≤ length s.options + length s.resources * (1 + length s.messages)
    uses = omega (
      arith,
      ones_terms (resource_has_use s) (resources_of s),
      sum-le (λ r. length (resource_has_use s r).terms) (λ r. length (options_on s r) + (1 + length s.messages))
          (length s.resources) (λ r l. one r),
      sum_plus (λ r. length (options_on s r)) (λ r. 1 + length s.messages) (length s.resources),
      sum_same (1 + length s.messages) (length s.resources),
      all_classes (λ o. (option_at s o).resource) (length s.options) (length s.resources),
    )
      where
        one : (r : ℕ) → length (resource_has_use s r).terms ≤ length (options_on s r) + (1 + length s.messages)
        one r =
            let os = options_on s r in
            let rest = positives (map (cover_of s r) (messages_of s)) in
            let v = negative (resource_var s r) in
            omega (
              arith,
              length-at_least 1 (positives os ++ v ∷ rest),
              length-append (positives os) (v ∷ rest),
              length-map os positive,
              length-map (map (cover_of s r) (messages_of s)) positive,
              length-map (messages_of s) (cover_of s r),
              length-range_with_len 0 (length s.messages),
            )

    arcs : terms_of d ≤ length s.messages * (length s.arcs * 2)
    arcs = omega (
      arith,
      pieces_terms (arcs_allocate s) (messages_of s),
      sum-le (λ m. terms_of (arcs_allocate s m)) (λ m. length s.arcs * 2) (length s.messages)
          (λ m l. omega (
            arith,
            ones_terms (arc_allocates s m) (below (length s.arcs)),
            sum-le (λ k. length (arc_allocates s m k).terms) (λ k. 2) (length s.arcs)
                (λ k h. omega (arith, length-at_least 1 (negative (arc_var s m k) ∷ (positive (link_var s (arc_at s k).link) ∷ [])))),
            sum_same 2 (length s.arcs),
          )),
      sum_same (length s.arcs * 2) (length s.messages),
    )

    links : terms_of e ≤ length s.messages * length s.arcs + length s.links
    links = omega (
      arith,
      ones_terms (link_has_use s) (below (length s.links)),
      sum-le (λ l. length (link_has_use s l).terms) (λ l. length s.messages * length (arcs_of s l) + 1) (length s.links)
          (λ l k. one l),
      sum_plus (λ l. length s.messages * length (arcs_of s l)) (λ l. 1) (length s.links),
      sum_times (length s.messages) (λ l. length (arcs_of s l)) (length s.links),
      sum_same 1 (length s.links),
      mul-le (length s.messages) (sum_by (λ l. length (arcs_of s l)) (below (length s.links))) (length s.messages) (length s.arcs) (omega arith)
          (all_classes (λ k. (arc_at s k).link) (length s.arcs) (length s.links)),
    )
      where
        long : (l : ℕ) (ms : List ℕ) → length (flat_map (link_arcs s l) ms) ≡ length ms * length (arcs_of s l)
        long l [] = omega arith
        long l (m ∷ ms) =
            omega (arith, length-append (arc_vars s m (arcs_of s l)) (flat_map (link_arcs s l) ms), length-map (arcs_of s l) (arc_var s m), long l ms, times (length ms) (length (arcs_of s l)))
          where
            times : (n k : ℕ) → suc n * k ≡ n * k + k
            times n k = omega arith

        one : (l : ℕ) → length (link_has_use s l).terms ≤ length s.messages * length (arcs_of s l) + 1
        one l =
            let vs = flat_map (link_arcs s l) (messages_of s) in
            omega (
              arith,
              length-at_least 1 (positives vs ++ negative (link_var s l) ∷ []),
              length-append (positives vs) (negative (link_var s l) ∷ []),
              length-map vs positive,
              long l (messages_of s),
              ap (λ (n : ℕ). n * length (arcs_of s l)) (length-range_with_len 0 (length s.messages)),
            )

-- a sum over the places of a list
places_sum : {X : Type 0} (f : X → ℕ) (xs : List X) (x : X) (n : ℕ) → n ≤ length xs → sum_by (λ i. f (get_or xs i x)) (below n) ≡ sum_by f (take n xs)
places_sum f xs x zero h = refl
places_sum f xs x (suc n) h =
    omega (arith, sum-below_suc (λ i. f (get_or xs i x)) n, places_sum f xs x n (omega (arith, h)), next)
  where
    next : sum_by f (take (suc n) xs) ≡ sum_by f (take n xs) + f (get_or xs n x)
    next = subst (λ (k : ℕ). sum_by f (take k xs) ≡ sum_by f (take n xs) + f (get_or xs n x)) (add-one n) (sum_by_more f xs n x h)

-- one message's families, with its share of the allocation
message-terms : (s : SpecValue) (m : ℕ) → terms_of (message_part s m) + (3 * length s.resources + 3 * length s.arcs) ≤ message_size s (message_at s m)
unfolding message_size
message-terms s m =
    omega (
      arith,
      terms-append (starts ++ receivers_covered s m) (routes_of s m),
      terms-append starts (receivers_covered s m),
      terms-append (a ++ b ++ c ++ d) e,
      terms-append (a ++ b ++ c) d,
      terms-append (a ++ b) c,
      terms-append a b,
      starts_terms s m,
      receivers-terms s m,
      covers_terms s m,
      arcs_in-terms s m,
      carries-terms s m,
      causes_terms s m,
      ends_terms s m,
      spread (length s.resources) (length s.arcs) (message_at s m).limit,
    )
  where
    starts : List Linear
    starts = flat_map (sender_start s m) (resources_of s)

    a : List Linear
    a = flat_map (covered_once s m) (resources_of s)

    b : List Linear
    b = flat_map (one_arc_in s m) (resources_of s)

    c : List Linear
    c = flat_map (arc_carries s m) (below (length s.arcs))

    d : List Linear
    d = flat_map (steps_have_cause s m) (resources_of s)

    e : List Linear
    e = flat_map (no_dangling s m) (resources_of s)

    spread : (r a h : ℕ) → r * 2 + r * (2 * h + 4) + (2 * a + r * (2 * h)) + a * (3 * h + 4) + (r * h + h * a) + (a + r * 2) + (3 * r + 3 * a) ≡ r * (5 * h + 11) + a * (4 * h + 10)
    spread r a h = omega arith

-- the encoding has no more terms than the specification's size
pub terms-size : (s : SpecValue) → terms_of (encoding s) ≤ size s
unfolding encoding size
terms-size s =
    omega (
      arith,
      terms-append (options_chosen s ++ flat_map (message_part s) (messages_of s)) (allocation s),
      terms-append (options_chosen s) (flat_map (message_part s) (messages_of s)),
      chosen-terms s,
      allocation-terms s,
      pieces_terms (message_part s) (messages_of s),
      sum-le (λ m. terms_of (message_part s m) + (3 * length s.resources + 3 * length s.arcs)) (λ m. message_size s (message_at s m)) (length s.messages) (λ m l. message-terms s m),
      sum_plus (λ m. terms_of (message_part s m)) (λ m. 3 * length s.resources + 3 * length s.arcs) (length s.messages),
      sum_same (3 * length s.resources + 3 * length s.arcs) (length s.messages),
      places_sum (message_size s) s.messages (record { sender = 0; receivers = []; limit = 0; delay = 0; quantity = 0 }) (length s.messages) (omega arith),
      ap (sum_by (message_size s)) (take_all (length s.messages) s.messages (omega arith)),
    )

pub ruleset term_counts = (terms-size)
