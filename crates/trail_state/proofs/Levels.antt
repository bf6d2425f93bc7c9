use Rattle.std.proofs.Common.{◌≡◌, ℕ, ◌+◌, ◌<◌, ◌≤◌, Bool, true, false, cond, eqb, Option, Some, None, List, [], ◌∷◌, ◌++◌, length, get_or, take, refl, sym, ap, ◌∙◌, subst, arith, zero, suc}
use Rattle.std.proofs.lemmas.Bool.Decides.{nat_tests}
use Rattle.std.proofs.lemmas.Grind.{common_steps}
use Rattle.std.proofs.lemmas.List.{take_more, take_all, take-append-le, length_push, get_or_push}
use Rattle.std.proofs.lemmas.List.Sums.{sum_by-cons, sum_by_push, count_by-le-length}
use Rattle.pb_constraints.specs.declared.ConId.{ConId}
use Rattle.trail_state.specs.Trail.{Entry, is_decision, value_in, reason_in, level_of, level_in, upto_level, reasoned, with_reason}

-- the level with one entry more in front
pub level-cons : (e : Entry) (es : List Entry) → level_of (e ∷ es) ≡ cond (is_decision e) 1 0 + level_of es
level-cons e es = sum_by-cons (λ (f : Entry). cond (is_decision f) 1 0) e es

-- and with one more at the end
pub level-push : (es : List Entry) (e : Entry) → level_of (es ++ e ∷ []) ≡ level_of es + cond (is_decision e) 1 0
level-push es e = sum_by_push (λ (f : Entry). cond (is_decision f) 1 0) es e

-- the level of one entry more of a trail
pub level_more : (es : List Entry) (p : ℕ) (d : Entry) → p < length es → level_of (take (p + 1) es) ≡ level_of (take p es) + cond (is_decision (get_or es p d)) 1 0
level_more es p d h = rw (take_more es p d h) (level-push (take p es) (get_or es p d))

-- the level at a place is at most that at the end
pub level_part : (es : List Entry) (p : ℕ) → level_of (take p es) ≤ level_of es
level_part [] zero = omega arith
level_part [] (suc p) = omega arith
level_part (e ∷ es) zero = omega arith
level_part (e ∷ es) (suc p) =
    let a = level-cons e es in
    let b = level-cons e (take p es) in
    let ih = level_part es p in omega arith

-- there are at most as many levels as entries
pub level_of-le : (es : List Entry) → level_of es ≤ length es
level_of-le es = count_by-le-length is_decision es

-- what a variable assigned first at a place has
pub record IsAt (es : List Entry) (x k : ℕ) (d : Entry) : Type 0 where
  pub value : value_in es x ≡ Some (get_or es k d).lit.yes
  pub reason : reason_in es x ≡ (get_or es k d).reason
  pub level : level_in es x ≡ level_of (take k es) + cond (is_decision (get_or es k d)) 1 0

none-not-some : (o : Option Bool) (b : Bool) → o ≡ Some b → o ≡ None → ⊥
none-not-some o b h n = cc

-- an entry whose variable had no value before is the one that gave it
pub first_at : (es : List Entry) (x k : ℕ) (d : Entry) → k < length es → (get_or es k d).lit.var ≡ x → value_in (take k es) x ≡ None → IsAt es x k d
first_at [] x k d h e n = absurd (omega arith)
first_at (f ∷ es) x zero d h e n =
    let hit : eqb f.lit.var x ≡ true = grind (arith, nat_tests) in
    record { value = rw hit refl; reason = rw hit refl; level = rw hit (omega arith) }
first_at (f ∷ es) x (suc k) d h e n = go (eqb f.lit.var x) refl (first_at es x k d (omega arith) e)
  where
    go : (b : Bool) → eqb f.lit.var x ≡ b → (value_in (take k es) x ≡ None → IsAt es x k d) → IsAt (f ∷ es) x (suc k) d
    go true q ih = absurd (let n' : value_in (f ∷ take k es) x ≡ Some f.lit.yes = rw q refl in none-not-some (value_in (f ∷ take k es) x) f.lit.yes n' n)
    go false q ih =
        let n' : value_in (f ∷ take k es) x ≡ value_in (take k es) x = rw q refl in
        let w = ih (sym n' ∙ n) in
        let c = level-cons f (take k es) in
        let l = w.level in
        record { value = rw q w.value; reason = rw q w.reason; level = rw q (omega arith) }

-- what is assigned before a place has a level up to there, and the same value in the whole
pub before_level : (es : List Entry) (x p : ℕ) (b : Bool) → value_in (take p es) x ≡ Some b → (level_in es x ≤ level_of (take p es)) × (value_in es x ≡ Some b)
before_level [] x zero b h = absurd (cc)
before_level [] x (suc p) b h = absurd (cc)
before_level (f ∷ es) x zero b h = absurd (cc)
before_level (f ∷ es) x (suc p) b h = go (eqb f.lit.var x) refl (before_level es x p b)
  where
    go : (o : Bool) → eqb f.lit.var x ≡ o → (value_in (take p es) x ≡ Some b → (level_in es x ≤ level_of (take p es)) × (value_in es x ≡ Some b)) → (level_in (f ∷ es) x ≤ level_of (f ∷ take p es))
        × (value_in (f ∷ es) x ≡ Some b)
    go true q ih =
        let v : value_in (f ∷ take p es) x ≡ Some f.lit.yes = rw q refl in
        let c = level-cons f (take p es) in
        (rw q (omega arith), rw q (sym v ∙ h))
    go false q ih =
        let v : value_in (f ∷ take p es) x ≡ value_in (take p es) x = rw q refl in
        let w = ih (sym v ∙ h) in
        let c = level-cons f (take p es) in
        let l = w.0 in
        (rw q (omega arith), rw q w.1)

-- a level is at most that of the whole
pub level_in-le : (es : List Entry) (x : ℕ) → level_in es x ≤ level_of es
level_in-le [] x = omega arith
level_in-le (e ∷ es) x = go (eqb e.lit.var x) refl (level_in-le es x)
  where
    go : (o : Bool) → eqb e.lit.var x ≡ o → level_in es x ≤ level_of es → level_in (e ∷ es) x ≤ level_of (e ∷ es)
    go true q ih = (let c = level-cons e es in rw q (omega arith))
    go false q ih = (let c = level-cons e es in rw q (omega arith))

-- further entries leave the level of a variable that has a value
pub level_in-append : (fs gs : List Entry) (x : ℕ) (b : Bool) → value_in fs x ≡ Some b → level_in (fs ++ gs) x ≡ level_in fs x
level_in-append [] gs x b h = absurd (cc)
level_in-append (e ∷ fs) gs x b h = go (eqb e.lit.var x) refl (level_in-append fs gs x b)
  where
    go : (o : Bool) → eqb e.lit.var x ≡ o → (value_in fs x ≡ Some b → level_in (fs ++ gs) x ≡ level_in fs x) → level_in ((e ∷ fs) ++ gs) x ≡ level_in (e ∷ fs) x
    go true q ih = rw q refl
    go false q ih = (let n : value_in (e ∷ fs) x ≡ value_in fs x = rw q refl in rw (q, ih (sym n ∙ h)) refl)

-- a new entry's variable has the current level
pub level_in-push : (es : List Entry) (e : Entry) → value_in es e.lit.var ≡ None → level_in (es ++ e ∷ []) e.lit.var ≡ level_of (es ++ e ∷ [])
level_in-push es e h =
    let fs : List Entry = es ++ e ∷ [] in
    let len = length_push es e in
    let g : get_or fs (length es) e ≡ e = get_or_push es e e (length es) refl in
    let t : take (length es) fs ≡ es = take-append-le (length es) es (e ∷ []) (omega arith) ∙ take_all (length es) es (omega arith) in
    let at = first_at fs e.lit.var (length es) e (omega arith) (ap (λ (f : Entry). f.lit.var) g) (ap (λ (us : List Entry). value_in us e.lit.var) t ∙ h) in
    at.level ∙ ap (λ (us : List Entry). level_of us + cond (is_decision (get_or fs (length es) e)) 1 0) t ∙ ap (λ (f : Entry). level_of es + cond (is_decision f) 1 0) g ∙ sym (level-push es e)

-- another reason leaves the levels, where no entry of the variable is a decision
pub level_in-with_reason : (x : ℕ) (reason : ConId) (es : List Entry) (y : ℕ) → ((k : ℕ) (d : Entry) → k < length es → (get_or es k d).lit.var ≡ x → is_decision (get_or es k d) ≡ false)
    → level_in (with_reason x reason es) y ≡ level_in es y
level_in-with_reason x reason [] y h = refl
level_in-with_reason x reason (e ∷ es) y h = go (eqb e.lit.var x) refl (h 0 e (omega arith)) (level_in-with_reason x reason es y (λ k d l. h (suc k) d (omega arith)))
  where
    go : (b : Bool) → eqb e.lit.var x ≡ b → (e.lit.var ≡ x → is_decision e ≡ false) → level_in (with_reason x reason es) y ≡ level_in es y
        → level_in (with_reason x reason (e ∷ es)) y ≡ level_in (e ∷ es) y
    go true q n ih = (let hit : e.lit.var ≡ x = grind (arith, nat_tests) in rw (q, n hit, ih) refl)
    go false q n ih = rw (q, ih) refl

-- another reason leaves the level, where no entry of the variable is a decision
pub level_of-with_reason : (x : ℕ) (reason : ConId) (es : List Entry) → ((k : ℕ) (d : Entry) → k < length es → (get_or es k d).lit.var ≡ x → is_decision (get_or es k d) ≡ false)
    → level_of (with_reason x reason es) ≡ level_of es
level_of-with_reason x reason [] h = refl
level_of-with_reason x reason (e ∷ es) h =
    let ih = level_of-with_reason x reason es (λ k d l. h (suc k) d (omega arith)) in
    let a = level-cons e es in
    let b = level-cons (reasoned x reason e) (with_reason x reason es) in
    let same : is_decision (reasoned x reason e) ≡ is_decision e = go (eqb e.lit.var x) refl (h 0 e (omega arith)) in
    b ∙ ap (λ c. cond c 1 0 + level_of (with_reason x reason es)) same ∙ ap (λ m. cond (is_decision e) 1 0 + m) ih ∙ sym a
  where
    go : (b : Bool) → eqb e.lit.var x ≡ b → (e.lit.var ≡ x → is_decision e ≡ false) → is_decision (reasoned x reason e) ≡ is_decision e
    go true q n = (let hit : e.lit.var ≡ x = grind (arith, nat_tests) in rw q (sym (n hit)))
    go false q n = rw q refl

-- a level above what is kept: the last entry goes
pub upto_level-push : (n : ℕ) (es : List Entry) (e : Entry) → n < level_of (es ++ e ∷ []) → upto_level n (es ++ e ∷ []) ≡ upto_level n es
upto_level-push zero [] e h = grind (arith, common_steps)
upto_level-push (suc n) [] e h = absurd (grind (arith, common_steps))
upto_level-push zero (f ∷ es) e h =
    let c = sum_by-cons (λ (f : Entry). cond (is_decision f) 1 0) f (es ++ e ∷ []) in
    let ih : is_decision f ≡ false → upto_level 0 (es ++ e ∷ []) ≡ upto_level 0 es = λ q. upto_level-push zero es e (let c' = rw q at c in omega arith) in
    grind (arith, common_steps)
upto_level-push (suc n) (f ∷ es) e h =
    let c = sum_by-cons (λ (f : Entry). cond (is_decision f) 1 0) f (es ++ e ∷ []) in
    let ih : is_decision f ≡ false → upto_level (suc n) (es ++ e ∷ []) ≡ upto_level (suc n) es = λ q. upto_level-push (suc n) es e (let c' = rw q at c in omega arith) in
    let ih' : is_decision f ≡ true → upto_level n (es ++ e ∷ []) ≡ upto_level n es = λ q. upto_level-push n es e (let c' = rw q at c in omega arith) in
    grind (arith, common_steps)

-- at most that many levels: all stay
pub upto_level_all : (n : ℕ) (es : List Entry) → level_of es ≤ n → upto_level n es ≡ es
upto_level_all zero [] h = refl
upto_level_all (suc n) [] h = refl
upto_level_all zero (f ∷ es) h =
    let P : ℕ → Type 0 = λ m. m ≤ 0 in
    let c : cond (is_decision f) 1 0 + level_of es ≤ 0 = subst P (sum_by-cons (λ (f : Entry). cond (is_decision f) 1 0) f es) h in
    let ih : is_decision f ≡ false → upto_level 0 es ≡ es = λ q. upto_level_all zero es (let c' = rw q at c in omega arith) in
    let no : is_decision f ≡ true → ⊥ = λ q. (let c' = rw q at c in omega arith) in
    grind (arith, common_steps)
upto_level_all (suc n) (f ∷ es) h =
    let P : ℕ → Type 0 = λ m. m ≤ suc n in
    let c : cond (is_decision f) 1 0 + level_of es ≤ suc n = subst P (sum_by-cons (λ (f : Entry). cond (is_decision f) 1 0) f es) h in
    let ih : is_decision f ≡ false → upto_level (suc n) es ≡ es = λ q. upto_level_all (suc n) es (let c' = rw q at c in omega arith) in
    let ih' : is_decision f ≡ true → upto_level n es ≡ es = λ q. upto_level_all n es (let c' = rw q at c in omega arith) in
    grind (arith, common_steps)

above : (n : ℕ) (f : Entry) (es : List Entry) (b : Bool) → is_decision f ≡ b → n < level_of (f ∷ es) → n < cond b 1 0 + level_of es
above n f es b e h =
    let P : ℕ → Type 0 = λ m. n < m in
    let Q : Bool → Type 0 = λ c. n < cond c 1 0 + level_of es in
    subst Q e (subst P (level-cons f es) h)

-- a level below the current one stays as it is, whatever is added
pub upto_level-append : (n : ℕ) (a b : List Entry) → n < level_of a → upto_level n (a ++ b) ≡ upto_level n a
upto_level-append n [] b h = absurd (omega arith)
upto_level-append zero (f ∷ a) b h = go (is_decision f) refl (λ l. upto_level-append zero a b l)
  where
    go : (o : Bool) → is_decision f ≡ o → (0 < level_of a → upto_level 0 (a ++ b) ≡ upto_level 0 a) → upto_level 0 (f ∷ a ++ b) ≡ upto_level 0 (f ∷ a)
    go true e ih = rw e refl
    go false e ih = (let c = above 0 f a false e h in rw e (ap (λ (us : List Entry). f ∷ us) (ih (omega arith))))
upto_level-append (suc n) (f ∷ a) b h = go (is_decision f) refl (λ m l. upto_level-append m a b l)
  where
    go : (o : Bool) → is_decision f ≡ o → ((m : ℕ) → m < level_of a → upto_level m (a ++ b) ≡ upto_level m a) → upto_level (suc n) (f ∷ a ++ b) ≡ upto_level (suc n) (f ∷ a)
    go true e ih = (let c = above (suc n) f a true e h in rw e (ap (λ (us : List Entry). f ∷ us) (ih n (omega arith))))
    go false e ih = (let c = above (suc n) f a false e h in rw e (ap (λ (us : List Entry). f ∷ us) (ih (suc n) (omega arith))))

-- the entries up to a level are the first ones
pub upto_level-take : (n : ℕ) (es : List Entry) → take (length (upto_level n es)) es ≡ upto_level n es
upto_level-take n [] = refl
upto_level-take zero (e ∷ es) = go (is_decision e) refl (upto_level-take zero es)
  where
    go : (o : Bool) → is_decision e ≡ o → take (length (upto_level 0 es)) es ≡ upto_level 0 es → take (length (upto_level 0 (e ∷ es))) (e ∷ es) ≡ upto_level 0 (e ∷ es)
    go true q ih = rw q refl
    go false q ih = rw q (ap (λ (us : List Entry). e ∷ us) ih)
upto_level-take (suc n) (e ∷ es) = go (is_decision e) refl (upto_level-take n es) (upto_level-take (suc n) es)
  where
    go : (o : Bool) → is_decision e ≡ o → take (length (upto_level n es)) es ≡ upto_level n es → take (length (upto_level (suc n) es)) es ≡ upto_level (suc n) es
        → take (length (upto_level (suc n) (e ∷ es))) (e ∷ es) ≡ upto_level (suc n) (e ∷ es)
    go true q ih ih' = rw q (ap (λ (us : List Entry). e ∷ us) ih)
    go false q ih ih' = rw q (ap (λ (us : List Entry). e ∷ us) ih')

-- what stands above a level begins with a decision
pub record Splits (n : ℕ) (es : List Entry) : Type 0 where
  pub decision : Entry
  pub rest : List Entry
  pub parts : es ≡ upto_level n es ++ decision ∷ rest
  pub decided : is_decision decision ≡ true

splits-cons : (n m : ℕ) (f : Entry) (es : List Entry) → upto_level n (f ∷ es) ≡ f ∷ upto_level m es → Splits m es → Splits n (f ∷ es)
splits-cons n m f es a ih = record {
  decision = ih.decision;
  rest = ih.rest;
  parts = ap (λ (us : List Entry). f ∷ us) ih.parts ∙ ap (λ (us : List Entry). us ++ ih.decision ∷ ih.rest) (sym a);
  decided = ih.decided;
}

-- what stands above a level that isn't the last begins with a decision
pub upto_level_splits : (n : ℕ) (es : List Entry) → n < level_of es → Splits n es
upto_level_splits n [] h = absurd (omega arith)
upto_level_splits zero (f ∷ es) h = go (is_decision f) refl (λ l. upto_level_splits zero es l)
  where
    go : (b : Bool) → is_decision f ≡ b → (0 < level_of es → Splits 0 es) → Splits 0 (f ∷ es)
    go true e ih = (let a : upto_level 0 (f ∷ es) ≡ [] = rw e refl in record { decision = f; rest = es; parts = ap (λ (us : List Entry). us ++ f ∷ es) (sym a); decided = e })
    go false e ih = (let c = above 0 f es false e h in splits-cons 0 0 f es (rw e refl) (ih (omega arith)))
upto_level_splits (suc n) (f ∷ es) h = go (is_decision f) refl (λ m l. upto_level_splits m es l)
  where
    go : (b : Bool) → is_decision f ≡ b → ((m : ℕ) → m < level_of es → Splits m es) → Splits (suc n) (f ∷ es)
    go true e ih = (let c = above (suc n) f es true e h in splits-cons (suc n) n f es (rw e refl) (ih n (omega arith)))
    go false e ih = (let c = above (suc n) f es false e h in splits-cons (suc n) (suc n) f es (rw e refl) (ih (suc n) (omega arith)))

-- the level after a jump back is the one asked for
pub level_of-upto_level : (n : ℕ) (es : List Entry) → n ≤ level_of es → level_of (upto_level n es) ≡ n
level_of-upto_level zero [] h = refl
level_of-upto_level (suc n) [] h = absurd (omega arith)
level_of-upto_level zero (e ∷ es) h = go (is_decision e) refl (level_of-upto_level zero es (omega arith))
  where
    go : (b : Bool) → is_decision e ≡ b → level_of (upto_level 0 es) ≡ 0 → level_of (upto_level 0 (e ∷ es)) ≡ 0
    go true q ih = rw q refl
    go false q ih = (let c = level-cons e (upto_level 0 es) in let c' = rw q at c in rw q (omega arith))
level_of-upto_level (suc n) (e ∷ es) h = go (is_decision e) refl (level_of-upto_level n es) (level_of-upto_level (suc n) es)
  where
    go : (b : Bool) → is_decision e ≡ b → (n ≤ level_of es → level_of (upto_level n es) ≡ n) → (suc n ≤ level_of es → level_of (upto_level (suc n) es) ≡ suc n)
        → level_of (upto_level (suc n) (e ∷ es)) ≡ suc n
    go true q ih ih' =
        let c = level-cons e (upto_level n es) in
        let c' = rw q at c in
        let d = level-cons e es in
        let d' = rw q at d in
        let i = ih (omega arith) in
        rw q (omega arith)
    go false q ih ih' =
        let c = level-cons e (upto_level (suc n) es) in
        let c' = rw q at c in
        let d = level-cons e es in
        let d' = rw q at d in
        let i = ih' (omega arith) in
        rw q (omega arith)

-- a jump back after a jump back to a higher level
pub upto_level_twice : (m n : ℕ) (es : List Entry) → m ≤ n → upto_level m (upto_level n es) ≡ upto_level m es
upto_level_twice m n [] h = refl
upto_level_twice zero zero (e ∷ es) h = go (is_decision e) refl (upto_level_twice zero zero es h)
  where
    go : (b : Bool) → is_decision e ≡ b → upto_level 0 (upto_level 0 es) ≡ upto_level 0 es → upto_level 0 (upto_level 0 (e ∷ es)) ≡ upto_level 0 (e ∷ es)
    go true q ih = rw q refl
    go false q ih = rw (q, q) (ap (λ (us : List Entry). e ∷ us) ih)
upto_level_twice zero (suc n) (e ∷ es) h = go (is_decision e) refl (upto_level_twice zero (suc n) es h)
  where
    go : (b : Bool) → is_decision e ≡ b → upto_level 0 (upto_level (suc n) es) ≡ upto_level 0 es → upto_level 0 (upto_level (suc n) (e ∷ es)) ≡ upto_level 0 (e ∷ es)
    go true q ih = rw (q, q) refl
    go false q ih = rw (q, q) (ap (λ (us : List Entry). e ∷ us) ih)
upto_level_twice (suc m) zero (e ∷ es) h = absurd (omega arith)
upto_level_twice (suc m) (suc n) (e ∷ es) h = go (is_decision e) refl (upto_level_twice m n es (omega arith)) (upto_level_twice (suc m) (suc n) es h)
  where
    go : (b : Bool) → is_decision e ≡ b → upto_level m (upto_level n es) ≡ upto_level m es → upto_level (suc m) (upto_level (suc n) es) ≡ upto_level (suc m) es
        → upto_level (suc m) (upto_level (suc n) (e ∷ es)) ≡ upto_level (suc m) (e ∷ es)
    go true q ih ih' = rw (q, q) (ap (λ (us : List Entry). e ∷ us) ih)
    go false q ih ih' = rw (q, q) (ap (λ (us : List Entry). e ∷ us) ih')

-- a variable of a level that is kept keeps its value
pub value_in-upto_level : (n : ℕ) (es : List Entry) (x : ℕ) → level_in es x ≤ n → value_in (upto_level n es) x ≡ value_in es x
value_in-upto_level n [] x h = refl
value_in-upto_level zero (e ∷ es) x h = go (is_decision e) (eqb e.lit.var x) refl refl (value_in-upto_level zero es x)
  where
    go : (b o : Bool) → is_decision e ≡ b → eqb e.lit.var x ≡ o → (level_in es x ≤ 0 → value_in (upto_level 0 es) x ≡ value_in es x) → value_in (upto_level 0 (e ∷ es)) x ≡ value_in (e ∷ es) x
    go true o q r ih = (let h' = rw q at h in absurd (omega arith))
    go false true q r ih = rw (q, r) refl
    go false false q r ih = (let h' = rw (q, r) at h in rw (q, r) (ih (omega arith)))
value_in-upto_level (suc n) (e ∷ es) x h = go (is_decision e) (eqb e.lit.var x) refl refl (λ m. value_in-upto_level m es x)
  where
    go : (b o : Bool) → is_decision e ≡ b → eqb e.lit.var x ≡ o → ((m : ℕ) → level_in es x ≤ m → value_in (upto_level m es) x ≡ value_in es x)
        → value_in (upto_level (suc n) (e ∷ es)) x ≡ value_in (e ∷ es) x
    go true true q r ih = rw (q, r) refl
    go true false q r ih = (let h' = rw (q, r) at h in rw (q, r) (ih n (omega arith)))
    go false true q r ih = rw (q, r) refl
    go false false q r ih = (let h' = rw (q, r) at h in rw (q, r) (ih (suc n) (omega arith)))

-- and one of a level above has none
pub none-upto_level : (n : ℕ) (es : List Entry) (x : ℕ) → n < level_in es x → value_in (upto_level n es) x ≡ None
none-upto_level n [] x h = refl
none-upto_level zero (e ∷ es) x h = go (is_decision e) (eqb e.lit.var x) refl refl (none-upto_level zero es x)
  where
    go : (b o : Bool) → is_decision e ≡ b → eqb e.lit.var x ≡ o → (0 < level_in es x → value_in (upto_level 0 es) x ≡ None) → value_in (upto_level 0 (e ∷ es)) x ≡ None
    go true o q r ih = rw q refl
    go false true q r ih = (let h' = rw (q, r) at h in absurd (omega arith))
    go false false q r ih = (let h' = rw (q, r) at h in rw (q, r) (ih (omega arith)))
none-upto_level (suc n) (e ∷ es) x h = go (is_decision e) (eqb e.lit.var x) refl refl (λ m. none-upto_level m es x)
  where
    go : (b o : Bool) → is_decision e ≡ b → eqb e.lit.var x ≡ o → ((m : ℕ) → m < level_in es x → value_in (upto_level m es) x ≡ None) → value_in (upto_level (suc n) (e ∷ es)) x ≡ None
    go true true q r ih = (let h' = rw (q, r) at h in absurd (omega arith))
    go true false q r ih = (let h' = rw (q, r) at h in rw (q, r) (ih n (omega arith)))
    go false true q r ih = (let h' = rw (q, r) at h in absurd (omega arith))
    go false false q r ih = (let h' = rw (q, r) at h in rw (q, r) (ih (suc n) (omega arith)))
