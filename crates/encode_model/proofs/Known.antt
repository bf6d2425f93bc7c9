-- The encoding mentions each of its variables.
use Rattle.std.proofs.Common.{◌≡◌, ℕ, zero, suc, ◌+◌, ◌-◌, ◌*◌, ◌/◌, ◌%◌, ◌<◌, ◌≤◌, Bool, true, false, cond, eqb, ltb, List, [], ◌∷◌, ◌++◌, length, map, refl, sym, ap, ◌∙◌, subst, arith, ◌⊎◌, inl, inr}
use Rattle.std.specs.Prelude.{All}
use Rattle.std.specs.List.{sum_by, flat_map, range_with_len}
use Rattle.std.proofs.lemmas.Bool.{eq-eqb, cases_lt, cases_Bool, eqb-true, false≢true}
use Rattle.std.proofs.lemmas.Nat.{div-add-mod', div_below, mod_below}
use Rattle.std.proofs.lemmas.List.{take_all}
use Rattle.std.proofs.lemmas.List.Elements.{All-cons, All-nil}
use Rattle.plain_lists.proofs.Joined.{All-right}
use Rattle.pb_rules.specs.declared.Term.{Term}
use Rattle.pb_rules.specs.Linear.{Linear}
use Rattle.pb_rules.specs.Operations.{mentions}
use Rattle.pb_rules.specs.Frames.{any_mentions}
use Rattle.spec_model.specs.Spec.{SpecValue, below, message_at, arc_at, option_at, arc_var, resource_var, link_var, step_var, covered_var, design_variables, all_variables, base, further}
use Rattle.spec_model.proofs.Joined.{All-left, All-piece, All-one, All-second}
use Rattle.spec_model.proofs.Places.{agree_at}
use Rattle.encode_model.specs.Encoding.{positive, negative, positives, put, by_variable, at_least, options_on, step_after, steps_from, resources_of, messages_of, cover_of, link_arcs, covered_once, one_arc_in, arc_carries, steps_have_cause, no_dangling, sender_start, receivers_covered, routes_of, message_part, option_allocates, covers_allocate, resource_has_use, arc_allocates, arcs_allocate, link_has_use, allocation, options_chosen, encoding}

-- a term of the variable is in the list
abbrev pub HasVariable : ℕ → List Term → Type 0
HasVariable x [] = ⊥
HasVariable x (t ∷ ts) = (t.lit.var ≡ x) ⊎ HasVariable x ts

pub mentions_of : (x : ℕ) (ts : List Term) → HasVariable x ts → mentions x ts ≡ true
mentions_of x [] h = absurd h
mentions_of x (t ∷ ts) (inl e) = ap (λ (b : Bool). cond b true (mentions x ts)) (eq-eqb t.lit.var x e)
mentions_of x (t ∷ ts) (inr h) = go (mentions_of x ts h) (eqb t.lit.var x)
  where
    go : mentions x ts ≡ true → (b : Bool) → cond b true (mentions x ts) ≡ true
    go later true = refl
    go later false = later

put_keeps : (x : ℕ) (t : Term) (us : List Term) → HasVariable x (t ∷ us) → HasVariable x (put t us)
put_keeps x t [] h = h
put_keeps x t (u ∷ us) h = go (put_keeps x t us) (ltb t.lit.var u.lit.var) h
  where
    go : (HasVariable x (t ∷ us) → HasVariable x (put t us)) → (b : Bool) → HasVariable x (t ∷ (u ∷ us)) → HasVariable x (cond b (t ∷ (u ∷ us)) (u ∷ put t us))
    go ih true h = h
    go ih false (inl e) = inr (ih (inl e))
    go ih false (inr (inl e)) = inl e
    go ih false (inr (inr m)) = inr (ih (inr m))

sorted_keeps : (x : ℕ) (ts : List Term) → HasVariable x ts → HasVariable x (by_variable ts)
sorted_keeps x [] h = h
sorted_keeps x (t ∷ ts) (inl e) = put_keeps x t (by_variable ts) (inl e)
sorted_keeps x (t ∷ ts) (inr m) = put_keeps x t (by_variable ts) (inr (sorted_keeps x ts m))

-- a clause mentions the variables of its terms
pub at_least-mentions : (x n : ℕ) (ts : List Term) → HasVariable x ts → mentions x (at_least n ts).terms ≡ true
unfolding at_least
at_least-mentions x n ts h = mentions_of x (by_variable ts) (sorted_keeps x ts h)

in_right : (x : ℕ) (us ts : List Term) → HasVariable x ts → HasVariable x (us ++ ts)
in_right x [] ts h = h
in_right x (u ∷ us) ts h = inr (in_right x us ts h)

in_left : (x : ℕ) (us ts : List Term) → HasVariable x us → HasVariable x (us ++ ts)
in_left x [] ts h = absurd h
in_left x (u ∷ us) ts (inl e) = inl e
in_left x (u ∷ us) ts (inr m) = inr (in_left x us ts m)

-- the variable of a term that is made of a number is among those of all that are made so
pub in_map : (g : ℕ → Term) (n a i : ℕ) → i < n → HasVariable (g (a + i)).lit.var (map g (range_with_len a n))
in_map g zero a i l = absurd (omega arith)
in_map g (suc n) a zero l = inl (ap (λ (k : ℕ). (g k).lit.var) (omega arith))
in_map g (suc n) a (suc i) l =
    let e : (a + 1) + i ≡ a + suc i = omega arith in
    inr (subst (λ (k : ℕ). HasVariable (g k).lit.var (map g (range_with_len (a + 1) n))) e (in_map g n (a + 1) i (omega arith)))

in_positives : (g : ℕ → ℕ) (n a i : ℕ) → i < n → HasVariable (g (a + i)) (positives (map g (range_with_len a n)))
in_positives g zero a i l = absurd (omega arith)
in_positives g (suc n) a zero l = inl (ap g (omega arith))
in_positives g (suc n) a (suc i) l =
    let e : (a + 1) + i ≡ a + suc i = omega arith in
    inr (subst (λ (k : ℕ). HasVariable (g k) (positives (map g (range_with_len (a + 1) n)))) e (in_positives g n (a + 1) i (omega arith)))

-- where a variable isn't known, no constraint mentions it
abbrev Lacks : ℕ → Linear → Type 0
Lacks x c = mentions x c.terms ≡ false

lacks_all : (x : ℕ) (cs : List Linear) → any_mentions cs x ≡ false → All (Lacks x) cs
lacks_all x [] h = All-nil (Lacks x)
lacks_all x (c ∷ cs) h = go (lacks_all x cs) (mentions x c.terms) refl h
  where
    go : (any_mentions cs x ≡ false → All (Lacks x) cs) → (b : Bool) → mentions x c.terms ≡ b → cond b true (any_mentions cs x) ≡ false → All (Lacks x) (c ∷ cs)
    go ih true q h = absurd cc
    go ih false q h = All-cons (Lacks x) c cs q (ih h)

not_there : (x : ℕ) (c : Linear) → Lacks x c → mentions x c.terms ≡ true → ⊥
not_there x c lacks has = absurd (false≢true (sym lacks ∙ has))

module _ (s : SpecValue) (x : ℕ) (none : All (Lacks x) (encoding s)) where
  abbrev M : ℕ
  M = length s.messages

  parts : All (Lacks x) (options_chosen s ++ flat_map (message_part s) (messages_of s) ++ allocation s)
  unfolding encoding
  parts = none

  allocated : All (Lacks x) (allocation s)
  allocated = All-right (Lacks x) (options_chosen s ++ flat_map (message_part s) (messages_of s)) (allocation s) parts

  message : (m : ℕ) → m < M → All (Lacks x) (message_part s m)
  message m l =
      All-piece (Lacks x) (message_part s) M m (All-right (Lacks x) (options_chosen s) (flat_map (message_part s) (messages_of s))
      (All-left (Lacks x) (options_chosen s ++ flat_map (message_part s) (messages_of s)) (allocation s) parts)) l

  abbrev O : List Linear
  O = map (option_allocates s) (below (length s.options))

  abbrev C : List Linear
  C = flat_map (covers_allocate s) (messages_of s)

  abbrev R : List Linear
  R = map (resource_has_use s) (resources_of s)

  abbrev A : List Linear
  A = flat_map (arcs_allocate s) (messages_of s)

  abbrev L : List Linear
  L = map (link_has_use s) (below (length s.links))

  no_option : (o : ℕ) → o < length s.options → x ≡ o → ⊥
  unfolding option_allocates
  no_option o l e =
      let at = All-one (Lacks x) (option_allocates s) (length s.options) o (All-left (Lacks x) O C (All-left (Lacks x) (O ++ C) R
      (All-left (Lacks x) (O ++ C ++ R) A (All-left (Lacks x) (O ++ C ++ R ++ A) L allocated)))) l in
      not_there x (option_allocates s o) at (at_least-mentions x 1 (negative o ∷ (positive (resource_var s (option_at s o).resource) ∷ [])) (inl (sym e)))

  no_resource : (r : ℕ) → r < length s.resources → x ≡ resource_var s r → ⊥
  unfolding resource_has_use
  no_resource r l e =
      let at = All-one (Lacks x) (resource_has_use s) (length s.resources) r (All-right (Lacks x) (O ++ C) R
      (All-left (Lacks x) (O ++ C ++ R) A (All-left (Lacks x) (O ++ C ++ R ++ A) L allocated))) l in
      let ls : List Term = negative (resource_var s r) ∷ positives (map (cover_of s r) (messages_of s)) in
      not_there x (resource_has_use s r) at (at_least-mentions x 1 (positives (options_on s r) ++ ls) (in_right x (positives (options_on s r)) ls (inl (sym e))))

  no_arc : (m a : ℕ) → m < M → a < length s.arcs → x ≡ arc_var s m a → ⊥
  unfolding arc_allocates
  no_arc m a hm ha e =
      let at = All-one (Lacks x) (arc_allocates s m) (length s.arcs) a (All-piece (Lacks x) (arcs_allocate s) M m
      (All-right (Lacks x) (O ++ C ++ R) A (All-left (Lacks x) (O ++ C ++ R ++ A) L allocated)) hm) ha in
      not_there x (arc_allocates s m a) at (at_least-mentions x 1 (negative (arc_var s m a) ∷ (positive (link_var s (arc_at s a).link) ∷ [])) (inl (sym e)))

  no_link : (l : ℕ) → l < length s.links → x ≡ link_var s l → ⊥
  unfolding link_has_use
  no_link l hl e =
      let at = All-one (Lacks x) (link_has_use s) (length s.links) l (All-right (Lacks x) (O ++ C ++ R ++ A) L allocated) hl in
      let ls : List Term = negative (link_var s l) ∷ [] in
      not_there x (link_has_use s l) at (at_least-mentions x 1 (positives (flat_map (link_arcs s l) (messages_of s)) ++ ls)
      (in_right x (positives (flat_map (link_arcs s l) (messages_of s))) ls (inl (sym e))))

  -- a resource of a message
  once : (m r : ℕ) → m < M → r < length s.resources → Lacks x (at_least 1 (positives (steps_from s m r 0) ++ negative (covered_var s m r) ∷ []))
  once m r hm hr =
      let c = flat_map (covered_once s m) (resources_of s) in
      let i = flat_map (one_arc_in s m) (resources_of s) in
      let k = flat_map (arc_carries s m) (below (length s.arcs)) in
      let h = flat_map (steps_have_cause s m) (resources_of s) in
      let d = flat_map (no_dangling s m) (resources_of s) in
      let routes : All (Lacks x) (routes_of s m) = All-right (Lacks x) (flat_map (sender_start s m) (resources_of s) ++ receivers_covered s m) (routes_of s m) (message m hm) in
      All-second (Lacks x) _ _ (All-piece (Lacks x) (covered_once s m) (length s.resources) r (All-left (Lacks x) c i
      (All-left (Lacks x) (c ++ i) k (All-left (Lacks x) (c ++ i ++ k) h (All-left (Lacks x) (c ++ i ++ k ++ h) d routes)))) hr)

  no_step : (m r t : ℕ) → m < M → r < length s.resources → t ≤ (message_at s m).limit → x ≡ step_var s m r t → ⊥
  unfolding step_after
  no_step m r t hm hr ht e =
      let z : 0 + t ≡ t = omega arith in
      let twice : 0 + (0 + t) ≡ t = omega arith in
      let there : HasVariable (step_after s m r 0 (0 + t)) (positives (steps_from s m r 0)) = in_positives (step_after s m r 0) ((message_at s m).limit + 1 - 0) 0 t (omega (arith, ht)) in
      let is : step_after s m r 0 (0 + t) ≡ x = ap (λ (k : ℕ). step_var s m r k) twice ∙ sym e in
      not_there x (at_least 1 (positives (steps_from s m r 0) ++ negative (covered_var s m r) ∷ [])) (once m r hm hr)
      (at_least-mentions x 1 (positives (steps_from s m r 0) ++ negative (covered_var s m r) ∷ [])
      (in_left x (positives (steps_from s m r 0)) (negative (covered_var s m r) ∷ []) (subst (λ (y : ℕ). HasVariable y (positives (steps_from s m r 0))) is there)))

  no_cover : (m r : ℕ) → m < M → r < length s.resources → x ≡ covered_var s m r → ⊥
  no_cover m r hm hr e =
      not_there x (at_least 1 (positives (steps_from s m r 0) ++ negative (covered_var s m r) ∷ [])) (once m r hm hr)
      (at_least-mentions x 1 (positives (steps_from s m r 0) ++ negative (covered_var s m r) ∷ []) (in_right x (positives (steps_from s m r 0)) (negative (covered_var s m r) ∷ []) (inl (sym e))))

  no_design : x < design_variables s → ⊥
  no_design l = at (cases_lt x (length s.options)) (cases_lt x (length s.options + M * length s.arcs)) (cases_lt x (length s.options + M * length s.arcs + length s.resources))
    where
      at : (x < length s.options) ⊎ (length s.options ≤ x) → (x < length s.options + M * length s.arcs) ⊎ (length s.options + M * length s.arcs ≤ x)
          → (x < length s.options + M * length s.arcs + length s.resources) ⊎ (length s.options + M * length s.arcs + length s.resources ≤ x) → ⊥
      at (inl k) b c = no_option x k refl
      at (inr k) (inl b) c =
          let p = x - length s.options in
          let n = length s.arcs in
          let in_arcs : p < M * n = omega (arith, k, b) in
          elim (cases_lt 0 n) [
            | inl some ↦ no_arc (p / n) (p % n) (div_below p n M some in_arcs) (mod_below p n some) (let d = div-add-mod' p n in omega (arith, d, k))
            | inr nil ↦ (let z : M * n ≡ 0 = no_product M n nil in absurd (omega (arith, in_arcs, z)))
          ]
        where
          no_product : (m n : ℕ) → n ≤ 0 → m * n ≡ 0
          no_product m zero h = omega arith
          no_product m (suc n) h = absurd (omega (arith, h))
      at (inr k) (inr b) (inl c) = no_resource (x - (length s.options + M * length s.arcs)) (omega (arith, b, c)) (omega (arith, b))
      at (inr k) (inr b) (inr c) = no_link (x - (length s.options + M * length s.arcs + length s.resources)) (omega (arith, l, c)) (omega (arith, c))

-- each variable of an encoding is known
pub encoding_knows : (s : SpecValue) (x : ℕ) → x < all_variables s → any_mentions (encoding s) x ≡ true
unfolding all_variables base
encoding_knows s x l =
    agree_at s (any_mentions (encoding s)) (λ _. true) (λ v h. there v (λ none. no_design s v none h))
    (λ m r t hm hr ht. there (step_var s m r t) (λ none. no_step s (step_var s m r t) none m r t hm hr ht refl))
    (λ m r hm hr. there (covered_var s m r) (λ none. no_cover s (covered_var s m r) none m r hm hr refl)) x
    (omega (arith, l, ap (sum_by (further s)) (take_all (length s.messages) s.messages (omega arith))))
  where
    there : (v : ℕ) → (All (Lacks v) (encoding s) → ⊥) → any_mentions (encoding s) v ≡ true
    there v h =
        elim (cases_Bool (any_mentions (encoding s) v)) [
          | inl t ↦ t
          | inr f ↦ absurd (h (lacks_all v (encoding s) f))
        ]
