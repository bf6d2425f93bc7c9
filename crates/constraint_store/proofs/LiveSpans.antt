-- What the parts say of the list of live constraints.
use Rattle.std.proofs.Common.{◌≡◌, ◌≢◌, ℕ, Bool, cond, ◌+◌, ◌<◌, ◌≤◌, true, false, eqb, Option, Some, None, List, [], ◌∷◌, ◌++◌, length, get_or, set, take, refl, sym, ap, ◌∙◌, arith, is_some, zero, suc, zero-add, IsTrue, inl, inr, subst}
use Rattle.std.proofs.lemmas.Bool.{cases_lt}
use Rattle.std.proofs.lemmas.List.{get_or_past, get_or_read_under, take_more}
use Rattle.std.proofs.lemmas.List.Elements.{All-head, All-tail}
use Rattle.std.proofs.lemmas.Grind.{common_steps}
use Rattle.std.proofs.lemmas.Bool.Decides.{nat_tests}
use Rattle.pb_rules.specs.Linear.{IsNormal}
use Rattle.pb_rules.specs.declared.Term.{Term}
use Rattle.pb_constraints.specs.declared.ConId.{ConId}
use Rattle.constraint_store.specs.declared.spans.Span.{Span}
use Rattle.constraint_store.specs.Live.{Live, is_live, live_at, without, HasDistinctIds}
use Rattle.constraint_store.specs.Spans.{live_from, live_in, AreNormal}

abbrev pub empty_span : Option Span
empty_span = None

-- no id below the first
pub is_live_below : (ts : List Term) (k : ℕ) (ss : List (Option Span)) (c : ConId) → c.0 < k → is_live (live_from ts k ss) c ≡ false
is_live_below ts k [] c h = refl
is_live_below ts k (None ∷ ss) c h = is_live_below ts (k + 1) ss c (omega arith)
is_live_below ts k (Some s ∷ ss) c h =
    let ih = is_live_below ts (k + 1) ss c (omega arith) in
    let ne : k ≢ c.0 = omega arith in
    grind (arith, nat_tests)

-- an id is live where it has a part
pub is_live_from : (ts : List Term) (k : ℕ) (ss : List (Option Span)) (c : ConId) (i : ℕ) → c.0 ≡ k + i → is_live (live_from ts k ss) c ≡ is_some (get_or ss i empty_span)
is_live_from ts k [] c i e = refl
is_live_from ts k (None ∷ ss) c zero e = is_live_below ts (k + 1) ss c (omega arith)
is_live_from ts k (None ∷ ss) c (suc i) e = is_live_from ts (k + 1) ss c i (omega arith)
is_live_from ts k (Some s ∷ ss) c zero e = let q : k ≡ c.0 = omega arith in grind (arith, nat_tests)
is_live_from ts k (Some s ∷ ss) c (suc i) e =
    let ih = is_live_from ts (k + 1) ss c i (omega arith) in
    let ne : k ≢ c.0 = omega arith in
    grind (arith, nat_tests)

-- what is live there
pub live_at_from : (ts : List Term) (k : ℕ) (ss : List (Option Span)) (c : ConId) (i : ℕ) (s : Span) → c.0 ≡ k + i → get_or ss i empty_span ≡ Some s → live_at (live_from ts k ss) c ≡ live_in ts c.0 s
live_at_from ts k [] c i s e h = absurd (cc)
live_at_from ts k (None ∷ ss) c zero s e h = absurd (cc)
live_at_from ts k (None ∷ ss) c (suc i) s e h = live_at_from ts (k + 1) ss c i s (omega arith) h
live_at_from ts k (Some r ∷ ss) c zero s e h =
    let q : k ≡ c.0 = omega arith in
    let r-is : r ≡ s = cc in
    let a : live_at (live_from ts k (Some r ∷ ss)) c ≡ live_in ts k r = grind (arith, nat_tests) in
    a ∙ ap (λ (m : ℕ). live_in ts m r) q ∙ ap (λ (t : Span). live_in ts c.0 t) r-is
live_at_from ts k (Some r ∷ ss) c (suc i) s e h =
    let ih = live_at_from ts (k + 1) ss c i s (omega arith) h in
    let ne : k ≢ c.0 = omega arith in
    let a : live_at (live_from ts k (Some r ∷ ss)) c ≡ live_at (live_from ts (k + 1) ss) c = grind (arith, nat_tests) in
    a ∙ ih

-- an id more without a part at the end
live_from-empty : (ts : List Term) (k : ℕ) (ss : List (Option Span)) → live_from ts k (ss ++ empty_span ∷ []) ≡ live_from ts k ss
live_from-empty ts k [] = refl
live_from-empty ts k (None ∷ ss) = live_from-empty ts (k + 1) ss
live_from-empty ts k (Some r ∷ ss) =
    ap (λ (es : List Live). live_in ts k r ∷ es) (live_from-empty ts (k + 1) ss)

-- the first ids, without an empty one after them
pub live_from_less : (ts : List Term) (ss : List (Option Span)) (n : ℕ) → n < length ss → get_or ss n empty_span ≡ None → live_from ts 0 (take n ss) ≡ live_from ts 0 (take (n + 1) ss)
live_from_less ts ss n h e =
    sym (ap (live_from ts 0) (take_more ss n empty_span h ∙ ap (λ (s : Option Span). take n ss ++ s ∷ []) e) ∙ live_from-empty ts 0 (take n ss))

-- a part more at the end
pub live_from-push : (ts : List Term) (k : ℕ) (ss : List (Option Span)) (s : Span) (i : ℕ) → i ≡ k + length ss → live_from ts k (ss ++ Some s ∷ []) ≡ live_from ts k ss ++ live_in ts i s ∷ []
live_from-push ts k [] s i e =
    let q : k ≡ i = omega arith in ap (λ (m : ℕ). live_in ts m s ∷ []) q
live_from-push ts k (None ∷ ss) s i e = live_from-push ts (k + 1) ss s i (omega arith)
live_from-push ts k (Some r ∷ ss) s i e =
    ap (λ (es : List Live). live_in ts k r ∷ es) (live_from-push ts (k + 1) ss s i (omega arith))

-- taking out an id below the first changes nothing
pub without_below : (ts : List Term) (k : ℕ) (ss : List (Option Span)) (c : ConId) → c.0 < k → without c (live_from ts k ss) ≡ live_from ts k ss
without_below ts k [] c h = refl
without_below ts k (None ∷ ss) c h = without_below ts (k + 1) ss c (omega arith)
without_below ts k (Some s ∷ ss) c h =
    let ih = without_below ts (k + 1) ss c (omega arith) in
    let ne : eqb k c.0 ≡ false = grind (arith, nat_tests) in
    rw (ne, ih) refl

-- taking away a part takes out what is live under its id
pub live_from-set_none : (ts : List Term) (k : ℕ) (ss : List (Option Span)) (c : ConId) (i : ℕ) → c.0 ≡ k + i → live_from ts k (set ss i empty_span) ≡ without c (live_from ts k ss)
live_from-set_none ts k [] c i e = refl
live_from-set_none ts k (None ∷ ss) c zero e = sym (without_below ts (k + 1) ss c (omega arith))
live_from-set_none ts k (None ∷ ss) c (suc i) e = live_from-set_none ts (k + 1) ss c i (omega arith)
live_from-set_none ts k (Some s ∷ ss) c zero e =
    let b = without_below ts (k + 1) ss c (omega arith) in
    let eq : eqb k c.0 ≡ true = (let q : k ≡ c.0 = omega arith in grind (arith, nat_tests)) in
    rw (eq, b) refl
live_from-set_none ts k (Some s ∷ ss) c (suc i) e =
    let ih = live_from-set_none ts (k + 1) ss c i (omega arith) in
    let ne : eqb k c.0 ≡ false = (let q : k ≢ c.0 = omega arith in grind (arith, nat_tests)) in
    rw (ne, ih) refl

-- what an id's being live says of the parts
pub live_there : (ts : List Term) (ss : List (Option Span)) (c : ConId) → IsTrue (is_live (live_from ts 0 ss) c) → (c.0 < length ss) × (is_some (get_or ss c.0 empty_span) ≡ true)
live_there ts ss c h =
    let e : is_live (live_from ts 0 ss) c ≡ is_some (get_or ss c.0 empty_span) = is_live_from ts 0 ss c c.0 (sym (zero-add c.0)) in
    let t : is_live (live_from ts 0 ss) c ≡ true = grind (arith, common_steps) in
    let q : is_some (get_or ss c.0 empty_span) ≡ true = sym e ∙ t in (
      elim (cases_lt c.0 (length ss)) [
        | inl l ↦ l
        | inr g ↦ (let past : get_or ss c.0 empty_span ≡ None = get_or_past ss c.0 empty_span g in let r = rw past at q in absurd (cc))
      ],
      q,
    )

-- what was read says whether its id is live
pub is_live_read : (ts : List Term) (ss : List (Option Span)) (c : ConId) (o : Option Span) (n : ℕ) → c.0 < n → n ≡ length ss → o ≡ get_or ss c.0 o → is_some o ≡ is_live (live_from ts 0 ss) c
is_live_read ts ss c o n h l e = ap is_some (get_or_read_under ss c.0 n o empty_span e h l) ∙ sym (is_live_from ts 0 ss c c.0 (sym (zero-add c.0)))

-- no id past the parts
pub is_live_past : (ts : List Term) (ss : List (Option Span)) (c : ConId) → length ss ≤ c.0 → is_live (live_from ts 0 ss) c ≡ false
is_live_past ts ss c h = is_live_from ts 0 ss c c.0 (sym (zero-add c.0)) ∙ ap is_some (get_or_past ss c.0 empty_span h)

-- the ids go on from the first
ids_from : (ts : List Term) (k : ℕ) (ss : List (Option Span)) (i : ℕ) (d : Live) → i < length (live_from ts k ss) → k ≤ (get_or (live_from ts k ss) i d).id.0
ids_from ts k [] i d h = absurd (omega arith)
ids_from ts k (None ∷ ss) i d h = omega (arith, ids_from ts (k + 1) ss i d h)
ids_from ts k (Some s ∷ ss) zero d h = omega arith
ids_from ts k (Some s ∷ ss) (suc i) d h = omega (arith, ids_from ts (k + 1) ss i d (omega arith))

-- and rise
ids_rise : (ts : List Term) (k : ℕ) (ss : List (Option Span)) (i j : ℕ) (d : Live) → i < j → j < length (live_from ts k ss)
    → (get_or (live_from ts k ss) i d).id.0 < (get_or (live_from ts k ss) j d).id.0
ids_rise ts k [] i j d l h = absurd (omega arith)
ids_rise ts k (None ∷ ss) i j d l h = ids_rise ts (k + 1) ss i j d l h
ids_rise ts k (Some s ∷ ss) i zero d l h = absurd (omega arith)
ids_rise ts k (Some s ∷ ss) zero (suc j) d l h = omega (arith, ids_from ts (k + 1) ss j d (omega arith))
ids_rise ts k (Some s ∷ ss) (suc i) (suc j) d l h = ids_rise ts (k + 1) ss i j d (omega arith) (omega arith)

-- so that none is there twice
pub distinct_ids : (ts : List Term) (ss : List (Option Span)) → HasDistinctIds (live_from ts 0 ss)
distinct_ids ts ss i j d l h e = absurd (omega (arith, ids_rise ts 0 ss i j d l h, e))

-- the live constraint of an id is in normal form where each one is
pub normal_at : (es : List Live) (c : ConId) → is_live es c ≡ true → AreNormal es → IsNormal (live_at es c).constraint.terms (live_at es c).constraint.degree
normal_at [] c h n = absurd (cc)
normal_at (e ∷ es) c h n = go (eqb e.id.0 c.0) h (λ g. normal_at es c g (All-tail OfNormal e es n))
  where
    OfNormal : Live → Type 0
    OfNormal d = IsNormal d.constraint.terms d.constraint.degree

    go : (b : Bool) → cond b true (is_live es c) ≡ true → (is_live es c ≡ true → OfNormal (live_at es c)) → OfNormal (cond b e (live_at es c))
    go true g ih = All-head OfNormal e es n
    go false g ih = ih g

-- a live id has a part that can be read
pub span_live : (ts : List Term) (ss read : List (Option Span)) (es : List Live) (c : ConId) → live_from ts 0 ss ≡ es → is_live es c ≡ true → read ≡ ss → is_some (get_or read c.0 empty_span) ≡ true
span_live ts ss read es c v live r =
    let l : is_live (live_from ts 0 ss) c ≡ true = ap (λ (xs : List Live). is_live xs c) v ∙ live in
    ap (λ (xs : List (Option Span)). is_some (get_or xs c.0 empty_span)) r ∙ (live_there ts ss c l).1

-- and what was read is what is live
pub span_is : (ts : List Term) (ss read : List (Option Span)) (es : List Live) (c : ConId) (s : Span) → live_from ts 0 ss ≡ es → read ≡ ss → get_or read c.0 empty_span ≡ Some s
    → live_in ts c.0 s ≡ live_at es c
span_is ts ss read es c s v r e =
    let at : get_or ss c.0 empty_span ≡ Some s = ap (λ (xs : List (Option Span)). get_or xs c.0 empty_span) (sym r) ∙ e in
    sym (live_at_from ts 0 ss c c.0 s (sym (zero-add c.0)) at) ∙ ap (λ (xs : List Live). live_at xs c) v

-- in normal form
pub normal_live : (ts : List Term) (ss : List (Option Span)) (es : List Live) (c : ConId) → live_from ts 0 ss ≡ es → is_live es c ≡ true → AreNormal (live_from ts 0 ss)
    → IsNormal (live_at es c).constraint.terms (live_at es c).constraint.degree
normal_live ts ss es c v live n = normal_at es c live (subst AreNormal v n)
