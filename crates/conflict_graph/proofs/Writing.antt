use Rattle.std.proofs.Common.{◌≡◌, ◌≢◌, ℕ, ◌+◌, ◌-◌, ◌<◌, ◌≤◌, Bool, true, false, cond, eqb, Option, Some, None, List, [], ◌∷◌, ◌++◌, length, get_or, set, take, refl, sym, ap, ◌∙◌, arith, suc, get_or-set_same, get_or-set_other, is_some, length-take, max}
use Rattle.std.proofs.lemmas.Bool.Decides.{nat_tests}
use Rattle.std.proofs.lemmas.List.{append_assoc, append-nil, take_more, take_all, get_or-take, get_or_default}
use Rattle.std.proofs.lemmas.List.Sums.{sum_by_push}
use Rattle.pb_rules.specs.declared.Term.{Term}
use Rattle.pb_rules.specs.Linear.{Linear}
use Rattle.pb_rules.specs.Partial.{is_false, open_weight}
use Rattle.pb_rules.specs.declared.Op.{Op}
use Rattle.pb_rules.specs.declared.Op.TheVariants.{Id, Saturate, Weaken}
use Rattle.conflict_graph.specs.Clauses.{weakenings, false_terms, greatest, finishing, clause_ops, false_signs}
use Rattle.trail_state.specs.Trail.{Entry, value_in, level_of, level_in}
use Rattle.conflict_graph.specs.Learning.{signs, either, current_at, currents, HasLevels}
use Rattle.pb_rules.specs.declared.Op.TheVariants.{Add}
use Rattle.conflict_graph.proofs.Counts.{currents_change}

weakenings-push : (a : ℕ → Option Bool) (ts : List Term) (t : Term) → weakenings a (ts ++ t ∷ []) ≡ weakenings a ts ++ cond (is_false a t.lit) [] (Weaken t.lit.var ∷ [])
weakenings-push a [] t = refl
weakenings-push a (u ∷ ts) t = go (is_false a u.lit) (weakenings-push a ts t)
  where
    go : (b : Bool) → weakenings a (ts ++ t ∷ []) ≡ weakenings a ts ++ cond (is_false a t.lit) [] (Weaken t.lit.var ∷ [])
        → cond b (weakenings a (ts ++ t ∷ [])) (Weaken u.lit.var ∷ weakenings a (ts ++ t ∷ [])) ≡ cond b (weakenings a ts) (Weaken u.lit.var ∷ weakenings a ts)
        ++ cond (is_false a t.lit) [] (Weaken t.lit.var ∷ [])
    go true ih = ih
    go false ih = ap (λ os. Weaken u.lit.var ∷ os) ih

false_terms-push : (a : ℕ → Option Bool) (ts : List Term) (t : Term) → greatest (false_terms a (ts ++ t ∷ [])) ≡ max (greatest (false_terms a ts)) (cond (is_false a t.lit) t.coef 0)
false_terms-push a [] t = go (is_false a t.lit)
  where
    go : (b : Bool) → greatest (cond b (t ∷ []) []) ≡ max 0 (cond b t.coef 0)
    go true = omega arith
    go false = refl
false_terms-push a (u ∷ ts) t = go (is_false a u.lit) (false_terms-push a ts t)
  where
    new : ℕ
    new = cond (is_false a t.lit) t.coef 0

    go : (b : Bool) → greatest (false_terms a (ts ++ t ∷ [])) ≡ max (greatest (false_terms a ts)) new
        → greatest (cond b (u ∷ false_terms a (ts ++ t ∷ [])) (false_terms a (ts ++ t ∷ []))) ≡ max (greatest (cond b (u ∷ false_terms a ts) (false_terms a ts))) new
    go true ih = ap (max u.coef) ih ∙ assoc u.coef (greatest (false_terms a ts)) new
      where
        assoc : (x y z : ℕ) → max x (max y z) ≡ max (max x y) z
        assoc x y z = omega arith
    go false ih = ih

-- what an explanation has written of a constraint's first terms, and what it knows of them
pub record Explains (a : ℕ → Option Bool) (ts : List Term) (start now : List Op) (room most : ℕ) : Type 0 where
  pub written : now ≡ start ++ weakenings a ts
  pub room_is : room ≡ open_weight a ts
  pub most_is : most ≡ greatest (false_terms a ts)

more_taken : (ts : List Term) (i : ℕ) (t : Term) → i < length ts → t ≡ get_or ts i t → take (i + 1) ts ≡ take i ts ++ t ∷ []
more_taken ts i t h e = take_more ts i t h ∙ ap (λ (u : Term). take i ts ++ u ∷ []) (sym e)

pub explain_kept : (a : ℕ → Option Bool) (ts : List Term) (i : ℕ) (t : Term) (start now : List Op) (room most next : ℕ) → i < length ts → t ≡ get_or ts i t → is_false a t.lit ≡ true
    → next ≡ max most t.coef → Explains a (take i ts) start now room most → Explains a (take (i + 1) ts) start now room next
explain_kept a ts i t start now room most next h e f n x =
    let more = more_taken ts i t h e in
    let w = rw f at (ap (weakenings a) more ∙ weakenings-push a (take i ts) t) in
    let o = rw f at (ap (open_weight a) more ∙ sum_by_push (λ (t : Term). cond (is_false a t.lit) 0 t.coef) (take i ts) t) in
    let g = rw f at (ap (λ us. greatest (false_terms a us)) more ∙ false_terms-push a (take i ts) t) in
    record {
      written = x.written ∙ ap (λ os. start ++ os) (sym (w ∙ append-nil (weakenings a (take i ts))));
      room_is = omega (arith, x.room_is, o);
      most_is = n ∙ ap (λ m. max m t.coef) x.most_is ∙ sym g;
    }

pub explain_weakened : (a : ℕ → Option Bool) (ts : List Term) (i : ℕ) (t : Term) (start now next : List Op) (room most : ℕ) → i < length ts → t ≡ get_or ts i t → is_false a t.lit ≡ false
    → next ≡ now ++ Weaken t.lit.var ∷ [] → Explains a (take i ts) start now room most → Explains a (take (i + 1) ts) start next (room + t.coef) most
explain_weakened a ts i t start now next room most h e f p x =
    let more = more_taken ts i t h e in
    let w = rw f at (ap (weakenings a) more ∙ weakenings-push a (take i ts) t) in
    let o = rw f at (ap (open_weight a) more ∙ sum_by_push (λ (t : Term). cond (is_false a t.lit) 0 t.coef) (take i ts) t) in
    let g = rw f at (ap (λ us. greatest (false_terms a us)) more ∙ false_terms-push a (take i ts) t) in
    record {
      written = p ∙ ap (λ os. os ++ Weaken t.lit.var ∷ []) x.written ∙ append_assoc start (weakenings a (take i ts)) (Weaken t.lit.var ∷ []) ∙ ap (λ os. start ++ os) (sym w);
      room_is = omega (arith, x.room_is, o);
      most_is = omega (arith, x.most_is, g);
    }

pub explain_end : (a : ℕ → Option Bool) (c : Linear) (id room most i : ℕ) (old now last : List Op) (ts : List Term) → ts ≡ c.terms → length ts ≤ i
    → Explains a (take i ts) (old ++ Id id ∷ []) now room most → last ≡ now ++ finishing (c.degree - room) most → last ≡ old ++ clause_ops id a c
explain_end a c id room most i old now last ts e l x p =
    let all : take i ts ≡ c.terms = take_all i ts l ∙ e in
    let w = x.written ∙ ap (λ us. (old ++ Id id ∷ []) ++ weakenings a us) all in
    let r = x.room_is ∙ ap (open_weight a) all in
    let g = x.most_is ∙ ap (λ us. greatest (false_terms a us)) all in
    let tail : List Op = finishing (c.degree - open_weight a c.terms) (greatest (false_terms a c.terms)) in
    let same : finishing (c.degree - room) most ≡ tail = ap (λ (m : ℕ). finishing (c.degree - m) most) r ∙ ap (finishing (c.degree - open_weight a c.terms)) g in
    p ∙ ap (λ os. os ++ finishing (c.degree - room) most) w ∙ ap (λ os. ((old ++ Id id ∷ []) ++ weakenings a c.terms) ++ os) same
    ∙ append_assoc (old ++ Id id ∷ []) (weakenings a c.terms) tail ∙ append_assoc old (Id id ∷ []) (weakenings a c.terms ++ tail)

-- the count after one sign is changed
pub count_set : (es : List Entry) (items : List (Option Bool)) (x : ℕ) (o p : Option Bool) (n : ℕ) → n ≡ length items → x < n → signs items x ≡ p
    → currents n 0 es (signs items) + current_at es x o ≡ currents n 0 es (signs (set items x o)) + current_at es x p
count_set es items x o p n l h s =
    let same = currents_change n 0 x es (signs items) (signs (set items x o)) (omega arith) (omega arith) (λ y ne. sym (get_or-set_other items x y o None ne)) in
    let a : signs (set items x o) x ≡ o = get_or-set_same items x o None (omega arith) in
    let a' = ap (current_at es x) a in
    let p' = ap (current_at es x) s in
    omega arith

current_is : (es : List Entry) (x : ℕ) (b : Bool) → (level_in es x ≡ level_of es → current_at es x (Some b) ≡ 1) × (level_in es x ≢ level_of es → current_at es x (Some b) ≡ 0)
current_is es x b = (
  λ e. (let t : eqb (level_in es x) (level_of es) ≡ true = grind (arith, nat_tests) in rw t refl),
  λ n. (let t : eqb (level_in es x) (level_of es) ≡ false = grind (arith, nat_tests) in rw t refl),
)

pub none_of : (o : Option Bool) → is_some o ≡ false → o ≡ None
none_of None h = refl
none_of (Some b) h = absurd (cc)

pub added_current : (es : List Entry) (items : List (Option Bool)) (levels : List ℕ) (n x : ℕ) (v b : Bool) (count : ℕ) → HasLevels es n levels → n ≡ length items → x < n → value_in es x ≡ Some v
    → signs items x ≡ None → count ≡ currents n 0 es (signs items) → get_or levels x 0 ≡ level_of es → count + 1 ≡ currents n 0 es (signs (set items x (Some b)))
added_current es items levels n x v b count h l lt a free c e =
    let s = count_set es items x (Some b) None n l lt free in
    let lv = h.level x v a in
    let one = (current_is es x b).0 (sym lv ∙ e) in
    omega arith

pub added_lower : (es : List Entry) (items : List (Option Bool)) (levels : List ℕ) (n x : ℕ) (v b : Bool) (count : ℕ) → HasLevels es n levels → n ≡ length items → x < n → value_in es x ≡ Some v
    → signs items x ≡ None → count ≡ currents n 0 es (signs items) → get_or levels x 0 ≢ level_of es → count ≡ currents n 0 es (signs (set items x (Some b)))
added_lower es items levels n x v b count h l lt a free c e =
    let s = count_set es items x (Some b) None n l lt free in
    let lv = h.level x v a in
    let none = (current_is es x b).1 (λ q. e (lv ∙ q)) in
    omega arith

pub dropped_current : (es : List Entry) (items : List (Option Bool)) (levels : List ℕ) (n x : ℕ) (v b : Bool) (count : ℕ) → HasLevels es n levels → n ≡ length items → x < n
    → value_in es x ≡ Some v → signs items x ≡ Some b → count ≡ currents n 0 es (signs items) → get_or levels x 0 ≡ level_of es → (1 ≤ count) × (count - 1 ≡ currents n 0 es (signs (set items x None)))
dropped_current es items levels n x v b count h l lt a taken c e =
    let s = count_set es items x None (Some b) n l lt taken in
    let lv = h.level x v a in
    let one = (current_is es x b).0 (sym lv ∙ e) in
    (omega arith, omega arith)

pub dropped_lower : (es : List Entry) (items : List (Option Bool)) (levels : List ℕ) (n x : ℕ) (v b : Bool) (count : ℕ) → HasLevels es n levels → n ≡ length items → x < n → value_in es x ≡ Some v
    → signs items x ≡ Some b → count ≡ currents n 0 es (signs items) → get_or levels x 0 ≢ level_of es → count ≡ currents n 0 es (signs (set items x None))
dropped_lower es items levels n x v b count h l lt a taken c e =
    let s = count_set es items x None (Some b) n l lt taken in
    let lv = h.level x v a in
    let none = (current_is es x b).1 (λ q. e (lv ∙ q)) in
    omega arith

either-none : (o : Option Bool) → o ≡ either o None
either-none None = refl
either-none (Some b) = refl

either_assoc : (o p q : Option Bool) → either (either o p) q ≡ either o (either p q)
either_assoc None p q = refl
either_assoc (Some b) p q = refl

signs-push : (a : ℕ → Option Bool) (ts : List Term) (t : Term) (y : ℕ) → ((j : ℕ) (d : Term) → j < length ts → (get_or ts j d).lit.var ≢ t.lit.var)
    → false_signs a (ts ++ t ∷ []) y ≡ either (false_signs a ts y) (cond (eqb t.lit.var y) (cond (is_false a t.lit) (Some t.lit.yes) None) None)
signs-push a [] t y h = refl
signs-push a (u ∷ ts) t y h = go (eqb u.lit.var y) refl (signs-push a ts t y (λ j d l. h (suc j) d (omega arith)))
  where
    new : Option Bool
    new = cond (eqb t.lit.var y) (cond (is_false a t.lit) (Some t.lit.yes) None) None

    go : (b : Bool) → eqb u.lit.var y ≡ b → false_signs a (ts ++ t ∷ []) y ≡ either (false_signs a ts y) new
        → cond b (cond (is_false a u.lit) (Some u.lit.yes) None) (false_signs a (ts ++ t ∷ []) y) ≡ either (cond b (cond (is_false a u.lit) (Some u.lit.yes) None) (false_signs a ts y)) new
    go false e ih = ih
    go true e ih =
        let ne = h 0 u (omega arith) in
        let v : u.lit.var ≡ y = grind (arith, nat_tests) in
        let m : eqb t.lit.var y ≡ false = (let n : t.lit.var ≢ y = λ q. ne (v ∙ sym q) in grind (arith, nat_tests)) in
        let z : new ≡ None = rw m refl in
        either-none (cond (is_false a u.lit) (Some u.lit.yes) None) ∙ ap (either (cond (is_false a u.lit) (Some u.lit.yes) None)) (sym z)

signs_more : (a : ℕ → Option Bool) (ts : List Term) (i : ℕ) (t : Term) (y : ℕ) → ((i j : ℕ) (d : Term) → i < j → j < length ts → (get_or ts i d).lit.var < (get_or ts j d).lit.var) → i < length ts
    → t ≡ get_or ts i t → false_signs a (take (i + 1) ts) y ≡ either (false_signs a (take i ts) y) (cond (eqb t.lit.var y) (cond (is_false a t.lit) (Some t.lit.yes) None) None)
signs_more a ts i t y rising h e =
    let more : take (i + 1) ts ≡ take i ts ++ t ∷ [] = take_more ts i t h ∙ ap (λ (u : Term). take i ts ++ u ∷ []) (sym e) in
    let len = length-take i ts in
    ap (λ us. false_signs a us y) more ∙ signs-push a (take i ts) t y (λ j d l q.
    (let lt : j < i = omega arith in
    let g : get_or (take i ts) j d ≡ get_or ts j d = get_or-take i ts j d lt in
    let r = rising j i d lt h in
    let at : get_or ts i d ≡ t = get_or_default ts i d t h ∙ sym e in
    let v : (get_or ts j d).lit.var ≡ (get_or ts i d).lit.var = ap (λ (u : Term). u.lit.var) (sym g) ∙ q ∙ ap (λ (u : Term). u.lit.var) (sym at) in
    omega arith))

-- marking goes on by one term
pub mark_false : (a : ℕ → Option Bool) (ts : List Term) (i : ℕ) (t : Term) (start now next : ℕ → Option Bool)
    → ((i j : ℕ) (d : Term) → i < j → j < length ts → (get_or ts i d).lit.var < (get_or ts j d).lit.var) → i < length ts → t ≡ get_or ts i t → is_false a t.lit ≡ true →
    ((y : ℕ) → now y ≡ either (start y) (false_signs a (take i ts) y)) → ((y : ℕ) → next y ≡ either (now y) (cond (eqb t.lit.var y) (Some t.lit.yes) None)) → (y : ℕ)
    → next y ≡ either (start y) (false_signs a (take (i + 1) ts) y)
mark_false a ts i t start now next rising h e f w p y =
    let m = rw f at (signs_more a ts i t y rising h e) in
    p y ∙ ap (λ o. either o (cond (eqb t.lit.var y) (Some t.lit.yes) None)) (w y) ∙ either_assoc (start y) (false_signs a (take i ts) y) (cond (eqb t.lit.var y) (Some t.lit.yes) None)
    ∙ ap (either (start y)) (sym m)

pub mark_kept : (a : ℕ → Option Bool) (ts : List Term) (i : ℕ) (t : Term) (start now : ℕ → Option Bool)
    → ((i j : ℕ) (d : Term) → i < j → j < length ts → (get_or ts i d).lit.var < (get_or ts j d).lit.var) → i < length ts → t ≡ get_or ts i t → is_false a t.lit ≡ false →
    ((y : ℕ) → now y ≡ either (start y) (false_signs a (take i ts) y)) → (y : ℕ) → now y ≡ either (start y) (false_signs a (take (i + 1) ts) y)
mark_kept a ts i t start now rising h e f w y =
    let m = rw f at (signs_more a ts i t y rising h e) in
    w y ∙ ap (either (start y)) (either-none (false_signs a (take i ts) y) ∙ ap (either (false_signs a (take i ts) y)) (sym (same (eqb t.lit.var y))) ∙ sym m)
  where
    same : (b : Bool) → cond {A = Option Bool} b None None ≡ None
    same true = refl
    same false = refl

pub counted_join : (es : List Entry) (n m k k' : ℕ) (items items' : List (Option Bool)) → n ≡ m → k ≡ k' → items ≡ items' → k' ≡ currents m 0 es (signs items') → k ≡ currents n 0 es (signs items)
counted_join es n m k k' items items' a b e h = b ∙ h ∙ ap (λ (x : ℕ). currents x 0 es (signs items')) (sym a) ∙ ap (λ (x : List (Option Bool)). currents n 0 es (signs x)) (sym e)

pub reason_ops : (id : ℕ) (c : Linear) (a b : ℕ → Option Bool) (old first second third : List Op) → a ≡ b → first ≡ old ++ clause_ops id a c → second ≡ first ++ Add ∷ []
    → third ≡ second ++ Saturate ∷ [] → third ≡ old ++ (clause_ops id b c ++ Add ∷ Saturate ∷ [])
reason_ops id c a b old first second third e f s t =
    t ∙ ap (λ os. os ++ Saturate ∷ []) s ∙ ap (λ os. (os ++ Add ∷ []) ++ Saturate ∷ []) f ∙ ap (λ (x : ℕ → Option Bool). ((old ++ clause_ops id x c) ++ Add ∷ []) ++ Saturate ∷ []) e
    ∙ append_assoc (old ++ clause_ops id b c) (Add ∷ []) (Saturate ∷ []) ∙ append_assoc old (clause_ops id b c) (Add ∷ Saturate ∷ [])
