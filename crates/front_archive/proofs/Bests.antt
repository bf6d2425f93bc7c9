-- The best of a list grow offer by offer, for any test that is transitive.
use Rattle.std.proofs.Common.{◌≡◌, ◌++◌, ◌&&◌, ◌||◌, not, cond, List, [], ◌∷◌, Bool, true, false, refl, sym, ap, ap₂, ◌∙◌, subst, append_assoc, append-nil, inl, inr, ◌⊎◌}
use Rattle.std.proofs.Common.{ℕ, ltb, length, Option, Some, None, arith, suc, ◌+◌}
use Rattle.std.proofs.lemmas.Bool.Decides.{nat_tests}
use Rattle.std.proofs.lemmas.Bool.{lt-ltb, cases_Bool, or_left, or_right, or_cases, or_parts, false_from_ne_true}
use Rattle.std.proofs.lemmas.List.Folds.{list_any-append}
use Rattle.std.specs.List.{list_any, filter, position, position_or_len}
use Rattle.std.proofs.Math.Bool.{or-false, and-not_self}
use Rattle.std.specs.Cmp.{both_ways}
use Rattle.front_archive.specs.Best.{dominates, equals, is_beaten, best_from, best, offered}

-- plain tests
or_middle : (a b c : Bool) → ((a || b) || c) ≡ ((a || c) || b)
or_middle true b c = refl
or_middle false true true = refl
or_middle false true false = refl
or_middle false false true = refl
or_middle false false false = refl

-- where one covers, it dominates or is equal
split_cover : (a b : Bool) → ((a && not b) || (a && b)) ≡ a
split_cover true true = refl
split_cover true false = refl
split_cover false b = refl

not_back : (a b : Bool) → b ≡ false → not (a && not b) ≡ not a
not_back true b e = ap (λ c. not (not c)) e
not_back false b e = refl

or_four : (a b c d : Bool) → ((a || b) || (c || d)) ≡ ((a || c) || (b || d))
or_four true b c d = refl
or_four false true true d = refl
or_four false true false d = refl
or_four false false c d = refl

and_both : (a b : Bool) → a ≡ true → b ≡ false → (a && not b) ≡ true
and_both a b p q = ap₂ (λ x y. x && not y) p q

not_and : (a b : Bool) → ((a && not b) ≡ true → ⊥) → not (a && not b) ≡ true
not_and true true n = refl
not_and true false n = absurd (n refl)
not_and false b n = refl

and_left : (a b : Bool) → (a && not b) ≡ true → a ≡ true
and_left true b e = refl
and_left false b e = absurd (cc)

and_right : (a b : Bool) → (a && not b) ≡ true → b ≡ false
and_right true true e = absurd (cc)
and_right true false e = refl
and_right false b e = absurd (cc)

module _ {X : Type 0} where
  cond_append : (b : Bool) (x : X) (xs ys t : List X) → cond b xs (x ∷ ys) ++ t ≡ cond b (xs ++ t) (x ∷ (ys ++ t))
  cond_append true x xs ys t = refl
  cond_append false x xs ys t = refl

  cond_filter : (p : X → Bool) (b d : Bool) (x : X) (xs : List X) → p x ≡ not d → cond (b || d) (filter p xs) (x ∷ filter p xs) ≡ filter p (cond b xs (x ∷ xs))
  cond_filter p true d x xs e = refl
  cond_filter p false true x xs e = ap (λ b. cond b (x ∷ filter p xs) (filter p xs)) (sym e)
  cond_filter p false false x xs e = ap (λ b. cond b (x ∷ filter p xs) (filter p xs)) (sym e)

  any_same : (p q : X → Bool) → ((x : X) → p x ≡ q x) → (xs : List X) → list_any p xs ≡ list_any q xs
  any_same p q e [] = refl
  any_same p q e (x ∷ xs) = ap₂ (λ a b. a || b) (e x) (any_same p q e xs)

  any_two : (p q : X → Bool) (xs : List X) → (list_any p xs || list_any q xs) ≡ list_any (λ x. p x || q x) xs
  any_two p q [] = refl
  any_two p q (x ∷ xs) = or_four (p x) (list_any p xs) (q x) (list_any q xs) ∙ ap (λ b. (p x || q x) || b) (any_two p q xs)

  abbrev pub Every : (X → Type 0) → List X → Type 0
  Every P [] = Unit {0}
  Every P (x ∷ xs) = P x × Every P xs

  every_more : (P Q : X → Type 0) → ((x : X) → P x → Q x) → (xs : List X) → Every P xs → Every Q xs
  every_more P Q f [] a = tt
  every_more P Q f (x ∷ xs) a = (f x a.0, every_more P Q f xs a.1)

  none_of : (p : X → Bool) (xs : List X) → list_any p xs ≡ false → Every (λ x. p x ≡ false) xs
  none_of p [] e = tt
  none_of p (x ∷ xs) e = let parts = or_parts (p x) _ e in (parts.0, none_of p xs parts.1)

  filter_whole : (p : X → Bool) (xs : List X) → Every (λ x. p x ≡ true) xs → filter p xs ≡ xs
  filter_whole p [] a = refl
  filter_whole p (x ∷ xs) a = ap (λ b. cond b (x ∷ filter p xs) (filter p xs)) a.0 ∙ ap (λ l. x ∷ l) (filter_whole p xs a.1)

  filter_same : (p q : X → Bool) (xs : List X) → Every (λ x. p x ≡ q x) xs → filter p xs ≡ filter q xs
  filter_same p q [] a = refl
  filter_same p q (x ∷ xs) a = ap₂ (λ b l. cond b (x ∷ l) l) a.0 (filter_same p q xs a.1)

module _ {X : Type 0} (cov : X → X → Bool) (trans : (a b c : X) → cov a b ≡ true → cov b c ≡ true → cov a c ≡ true) where
  -- over one more entry at the end
  from_snoc : (all e xs : List X) (m : X) → best_from cov all e (xs ++ m ∷ []) ≡ best_from cov all e xs ++ cond (is_beaten cov all (e ++ xs) m) [] (m ∷ [])
  from_snoc all e [] m = ap (λ l. cond (is_beaten cov all l m) [] (m ∷ [])) (sym (append-nil e))
  from_snoc all e (x ∷ xs) m =
      let b = is_beaten cov all e x in
      let t = λ (l : List X). cond (is_beaten cov all l m) [] (m ∷ []) in
      let rest = best_from cov all (e ++ x ∷ []) xs in
      ap (λ l. cond b l (x ∷ l)) (from_snoc all (e ++ x ∷ []) xs m ∙ ap (λ l. rest ++ t l) (append_assoc e (x ∷ []) xs))
      ∙ sym (cond_append b x rest rest (t (e ++ x ∷ xs)))

  beaten_snoc : (all e : List X) (m x : X) → is_beaten cov (all ++ m ∷ []) e x ≡ (is_beaten cov all e x || dominates cov m x)
  beaten_snoc all e m x =
      let d = λ (y : X). dominates cov y x in
      ap (λ b. b || list_any (λ y. equals cov y x) e) (list_any-append d all (m ∷ []) ∙ ap (λ b. list_any d all || b) (or-false (d m)))
      ∙ or_middle (list_any d all) (d m) (list_any (λ y. equals cov y x) e)

  -- one more that may dominate
  all_snoc : (all e xs : List X) (m : X) → best_from cov (all ++ m ∷ []) e xs ≡ filter (λ x. not (dominates cov m x)) (best_from cov all e xs)
  all_snoc all e [] m = refl
  all_snoc all e (x ∷ xs) m =
      ap₂ (λ b l. cond b l (x ∷ l)) (beaten_snoc all e m x) (all_snoc all (e ++ x ∷ []) xs m)
      ∙ cond_filter (λ x. not (dominates cov m x)) (is_beaten cov all e x) (dominates cov m x) x (best_from cov all (e ++ x ∷ []) xs) refl

  every_cond : (P : X → Type 0) (b : Bool) (x : X) (xs : List X) → (b ≡ false → P x) → Every P xs → Every P (cond b xs (x ∷ xs))
  every_cond P true x xs f a = a
  every_cond P false x xs f a = (f refl, a)

  unbeaten : (all e xs : List X) → Every (λ x. list_any (λ y. dominates cov y x) all ≡ false) (best_from cov all e xs)
  unbeaten all e [] = tt
  unbeaten all e (x ∷ xs) = every_cond _ (is_beaten cov all e x) x _ (λ none. (or_parts (list_any (λ y. dominates cov y x) all) _ none).0) (unbeaten all (e ++ x ∷ []) xs)

  any_cond : (p : X → Bool) (b : Bool) (x : X) (xs ys : List X) → (list_any p xs ≡ true → list_any p ys ≡ true) → list_any p (cond b xs (x ∷ xs)) ≡ true → (p x || list_any p ys) ≡ true
  any_cond p true x xs ys f e = or_right (p x) _ (f e)
  any_cond p false x xs ys f e = elim (or_cases (p x) _ e) [ inl h ↦ or_left (p x) _ h | inr t ↦ or_right (p x) _ (f t) ]

  any_best : (p : X → Bool) (all e xs : List X) → list_any p (best_from cov all e xs) ≡ true → list_any p xs ≡ true
  any_best p all e [] h = h
  any_best p all e (x ∷ xs) h = any_cond p (is_beaten cov all e x) x (best_from cov all (e ++ x ∷ []) xs) xs (any_best p all (e ++ x ∷ []) xs) h

  -- what covers a thing covers what that covers
  any_covers : (m y : X) (xs : List X) → cov m y ≡ true → list_any (λ x. cov x m) xs ≡ true → list_any (λ x. cov x y) xs ≡ true
  any_covers m y [] c e = e
  any_covers m y (x ∷ xs) c e = elim (or_cases (cov x m) _ e) [ inl h ↦ or_left (cov x y) _ (trans x m y h c) | inr t ↦ or_right (cov x y) _ (any_covers m y xs c t) ]

  -- and dominates it where that dominates
  any_dominates : (m y : X) (xs : List X) → cov m y ≡ true → cov y m ≡ false → list_any (λ x. cov x m) xs ≡ true → list_any (λ x. dominates cov x y) xs ≡ true
  any_dominates m y [] c n e = e
  any_dominates m y (x ∷ xs) c n e = elim (or_cases (cov x m) _ e) [
    | inl h ↦ or_left (dominates cov x y) _ (and_both (cov x y) (cov y x) (trans x m y h c) (false_from_ne_true (cov y x) (λ back. let yes = trans y x m back h in absurd (cc))))
    | inr t ↦ or_right (dominates cov x y) _ (any_dominates m y xs c n t)
  ]

  any_kept : (m y : X) (xs : List X) → cov m y ≡ false → list_any (λ x. cov x y) xs ≡ true → list_any (λ x. cov x y) (filter (λ x. not (cov m x)) xs) ≡ true
  any_kept m y [] n e = e
  any_kept m y (x ∷ xs) n e =
      let p = λ (x : X). cov x y in
      let F = filter (λ x. not (cov m x)) xs in
      elim (cases_Bool (cov m x)) [
        | inl c ↦ subst (λ b. list_any p (cond (not b) (x ∷ F) F) ≡ true) (sym c) (elim (or_cases (cov x y) (list_any p xs) e) [
          | inl k ↦ (let yes = trans m x y c k in absurd (cc))
          | inr t ↦ any_kept m y xs n t
        ])
        | inr c ↦ subst (λ b. list_any p (cond (not b) (x ∷ F) F) ≡ true) (sym c) (elim (or_cases (cov x y) (list_any p xs) e) [
          | inl k ↦ or_left (cov x y) _ k
          | inr t ↦ or_right (cov x y) _ (any_kept m y xs n t)
        ])
      ]

  -- each entry is covered by a best one
  abbrev pub Covers : List X → Type 0
  Covers h = (y : X) → list_any (λ x. cov x y) h ≡ true → list_any (λ x. cov x y) (best cov h) ≡ true

  new_beaten : (h : List X) (m : X) → is_beaten cov (h ++ m ∷ []) h m ≡ list_any (λ x. cov x m) h
  new_beaten h m =
      beaten_snoc h h m m
      ∙ ap (λ b. is_beaten cov h h m || b) (and-not_self (cov m m))
      ∙ or-false (is_beaten cov h h m)
      ∙ any_two (λ y. dominates cov y m) (λ y. equals cov y m) h
      ∙ any_same _ _ (λ x. split_cover (cov x m) (cov m x)) h

  finish : (h : List X) (m : X) (c : Bool) → list_any (λ x. cov x m) (best cov h) ≡ c → filter (λ x. not (dominates cov m x)) (best cov h) ++ cond c [] (m ∷ [])
      ≡ cond c (best cov h) (filter (λ x. not (cov m x)) (best cov h) ++ m ∷ [])
  finish h m true e =
      append-nil _ ∙ filter_whole _ _ (every_more _ _ (λ x n. not_and (cov m x) (cov x m) (λ d. let yes = any_dominates m x h (and_left _ _ d) (and_right _ _ d) (any_best _ h [] h e) in
      absurd (cc))) (best cov h) (unbeaten h [] h))
  finish h m false e = ap (λ l. l ++ m ∷ []) (filter_same _ _ _ (every_more _ _ (λ x n. not_back (cov m x) (cov x m) n) (best cov h) (none_of _ _ e)))

  step : (h : List X) (m : X) → Covers h → best cov (h ++ m ∷ []) ≡ offered cov (best cov h) m
  step h m covers =
      let c = list_any (λ x. cov x m) (best cov h) in
      from_snoc (h ++ m ∷ []) [] h m
      ∙ ap₂ (λ l b. l ++ cond b [] (m ∷ [])) (all_snoc h [] h m) (new_beaten h m ∙ both_ways _ _ (covers m) (any_best _ h [] h))
      ∙ finish h m c refl

  covers_offered : (h : List X) (m y : X) (c : Bool) → list_any (λ x. cov x m) (best cov h) ≡ c → (list_any (λ x. cov x y) h ≡ true) ⊎ (cov m y ≡ true) → Covers h
      → list_any (λ x. cov x y) (cond c (best cov h) (filter (λ x. not (cov m x)) (best cov h) ++ m ∷ [])) ≡ true
  covers_offered h m y true e (inl t) covers = covers y t
  covers_offered h m y true e (inr k) covers = any_covers m y (best cov h) k e
  covers_offered h m y false e cases covers =
      let p = λ (x : X). cov x y in
      let F = filter (λ x. not (cov m x)) (best cov h) in
      list_any-append p F (m ∷ []) ∙ elim (cases_Bool (cov m y)) [
        | inl k ↦ or_right (list_any p F) _ (or_left (cov m y) false k)
        | inr n ↦ or_left (list_any p F) _ (any_kept m y (best cov h) n (covers y (elim cases [ inl t ↦ t | inr k ↦ absurd (cc) ])))
      ]

  covers_step : (h : List X) (m : X) → Covers h → Covers (h ++ m ∷ [])
  covers_step h m covers y e = subst (λ l. list_any (λ x. cov x y) l ≡ true) (sym (step h m covers))
      (covers_offered h m y _ refl (elim (or_cases _ _ (sym (list_any-append (λ x. cov x y) h (m ∷ [])) ∙ e)) [ inl t ↦ inl t | inr k ↦ inr (sym (or-false (cov m y)) ∙ k) ]) covers)

  covers_all : (h rest : List X) → Covers h → Covers (h ++ rest)
  covers_all h [] c = subst Covers (sym (append-nil h)) c
  covers_all h (m ∷ rest) c = subst Covers (append_assoc h (m ∷ []) rest) (covers_all (h ++ m ∷ []) rest (covers_step h m c))

  -- an offer to the best of a list
  pub best_offered : (h : List X) (m : X) → offered cov (best cov h) m ≡ best cov (h ++ m ∷ [])
  best_offered h m = sym (step h m (covers_all [] h (λ y e. e)))

-- a place that passes, and a test of all
shifted : (a b : ℕ) → ltb a b ≡ ltb (1 + a) (suc b)
shifted a b = grind (arith, nat_tests)

pub any_position : {X : Type 0} (p : X → Bool) (xs : List X) → list_any p xs ≡ ltb (position_or_len p xs) (length xs)
any_position p [] = refl
any_position p (x ∷ xs) = elim (cases_Bool (p x)) [
  | inl y ↦ subst (λ b. (b || list_any p xs) ≡ ltb (cond (not b) (1 + position_or_len p xs) 0) (suc (length xs))) (sym y) (sym (lt-ltb 0 (suc (length xs)) (omega arith)))
  | inr n ↦ subst (λ b. (b || list_any p xs) ≡ ltb (cond (not b) (1 + position_or_len p xs) 0) (suc (length xs))) (sym n) (any_position p xs ∙ shifted (position_or_len p xs) (length xs))
]

is_some_true : (b : Bool) (i k : ℕ) → Some i ≡ cond b (Some k) None → b ≡ true
is_some_true true i k e = refl
is_some_true false i k e = absurd (cc)

is_none_false : (b : Bool) (k : ℕ) → let O : Type 0 = Option ℕ in ◌≡◌ {A = O} None (cond b (Some k) None) → b ≡ false
is_none_false true k e = absurd (cc)
is_none_false false k e = refl

pub found_any : {X : Type 0} (p : X → Bool) (xs : List X) (i : ℕ) → Some i ≡ position p xs → list_any p xs ≡ true
found_any p xs i e = any_position p xs ∙ is_some_true (ltb (position_or_len p xs) (length xs)) i (position_or_len p xs) e

pub none_any : {X : Type 0} (p : X → Bool) (xs : List X) → None ≡ position p xs → list_any p xs ≡ false
none_any p xs e = any_position p xs ∙ is_none_false (ltb (position_or_len p xs) (length xs)) (position_or_len p xs) e
