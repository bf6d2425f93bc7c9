-- The parts of a store's list of terms, and what moving them together does.
use Rattle.std.proofs.Common.{◌≡◌, ℕ, ◌+◌, ◌-◌, ◌<◌, ◌≤◌, Option, Some, None, List, [], ◌∷◌, ◌++◌, length, get_or, set, take, drop, refl, sym, ap, ◌∙◌, arith, zero, suc, zero-add, subst, not, eqb}
use Rattle.std.proofs.lemmas.List.{take-take, take_at, take_all, drop_at, drop_all, append-nil, length-append, drop-take, drop-drop, drop-set-lt, drop_more, length-drop, length-take-le, take_more, take_more_set, get_or_read, append_assoc}
use Rattle.std.proofs.lemmas.List.Edits.{drop-paste}
use Rattle.std.proofs.lemmas.List.Elements.{All-nil, All-cons, All-same, All-push, All-filter, All-head, All-tail}
use Rattle.std.proofs.Math.Seq.{paste}
use Rattle.pb_rules.specs.Linear.{Linear, IsNormal}
use Rattle.pb_rules.specs.declared.Term.{Term}
use Rattle.pb_constraints.specs.declared.ConId.{ConId}
use Rattle.constraint_store.specs.declared.spans.Span.{Span}
use Rattle.constraint_store.specs.Live.{Live, without}
use Rattle.constraint_store.specs.Spans.{part, live_in, live_from, Follow, AreNormal, IsStore, renumbered}
use Rattle.constraint_store.proofs.LiveSpans.{empty_span, live_from-push, live_from-set_none}

-- the same list up to a place has the same parts up to there
pub part_below : (ts us : List Term) (s : Span) (n : ℕ) → s.start + s.count ≤ n → take n us ≡ take n ts → part us s ≡ part ts s
part_below ts us s n h e =
    let m = s.start + s.count in
    let same : take m us ≡ take m ts = sym (take-take m n us h) ∙ ap (take m) e ∙ take-take m n ts h in
    sym (drop-take s.start s.count us) ∙ ap (drop s.start) same ∙ drop-take s.start s.count ts

-- the same list from a place on has the same parts from there on
pub part_behind : (ts us : List Term) (s : Span) (n : ℕ) → n ≤ s.start → drop n us ≡ drop n ts → part us s ≡ part ts s
part_behind ts us s n h e =
    let k = s.start - n in
    let back : n + k ≡ s.start = omega arith in
    let same : drop s.start us ≡ drop s.start ts = sym (ap (λ (m : ℕ). drop m us) back) ∙ sym (drop-drop k n us) ∙ ap (drop k) e ∙ drop-drop k n ts ∙ ap (λ (m : ℕ). drop m ts) back in
    ap (take s.count) same

-- what follows from one place to another
pub follow_le : (from to : ℕ) (ss : List (Option Span)) → Follow from to ss → from ≤ to
follow_le from to [] f = f
follow_le from to (None ∷ ss) f = follow_le from to ss f
follow_le from to (Some s ∷ ss) f = omega (arith, f.0, follow_le (s.start + s.count) to ss f.1)

pub follow_earlier : (from less to : ℕ) (ss : List (Option Span)) → less ≤ from → Follow from to ss → Follow less to ss
follow_earlier from less to [] h f = omega arith
follow_earlier from less to (None ∷ ss) h f = follow_earlier from less to ss h f
follow_earlier from less to (Some s ∷ ss) h f = (omega (arith, f.0), f.1)

pub follow_push : (from to : ℕ) (ss : List (Option Span)) (s : Span) → to ≤ s.start → Follow from to ss → Follow from (s.start + s.count) (ss ++ Some s ∷ [])
follow_push from to [] s h f = (omega arith, omega arith)
follow_push from to (None ∷ ss) s h f = follow_push from to ss s h f
follow_push from to (Some r ∷ ss) s h f = (f.0, follow_push (r.start + r.count) to ss s h f.1)

pub follow_set_none : (from to : ℕ) (ss : List (Option Span)) (i : ℕ) → Follow from to ss → Follow from to (set ss i empty_span)
follow_set_none from to [] i f = f
follow_set_none from to (None ∷ ss) zero f = f
follow_set_none from to (None ∷ ss) (suc i) f = follow_set_none from to ss i f
follow_set_none from to (Some s ∷ ss) zero f = follow_earlier (s.start + s.count) from to ss (omega (arith, f.0)) f.1
follow_set_none from to (Some s ∷ ss) (suc i) f = (f.0, follow_set_none (s.start + s.count) to ss i f.1)

pub follow_take : (from to : ℕ) (ss : List (Option Span)) (n : ℕ) → Follow from to ss → Follow from to (take n ss)
follow_take from to ss zero f = follow_le from to ss f
follow_take from to [] (suc n) f = f
follow_take from to (None ∷ ss) (suc n) f = follow_take from to ss n f
follow_take from to (Some s ∷ ss) (suc n) f = (f.0, follow_take (s.start + s.count) to ss n f.1)

-- the last part's end is where all end
pub follow_last : (from to : ℕ) (ss : List (Option Span)) (s : Span) → Follow from to (ss ++ Some s ∷ []) → Follow from (s.start + s.count) (ss ++ Some s ∷ []) × (s.start + s.count ≤ to)
follow_last from to [] s f = ((f.0, omega arith), f.1)
follow_last from to (None ∷ ss) s f = follow_last from to ss s f
follow_last from to (Some r ∷ ss) s f = let ih = follow_last (r.start + r.count) to ss s f.1 in ((f.0, ih.0), ih.1)

-- a part ends within
pub follow_within : (from to : ℕ) (ss : List (Option Span)) (i : ℕ) (s : Span) → get_or ss i empty_span ≡ Some s → Follow from to ss → s.start + s.count ≤ to
follow_within from to [] i s e f = absurd (cc)
follow_within from to (None ∷ ss) zero s e f = absurd (cc)
follow_within from to (None ∷ ss) (suc i) s e f = follow_within from to ss i s e f
follow_within from to (Some r ∷ ss) zero s e f =
    let same : r ≡ s = cc in
    rw (← same) (follow_le (r.start + r.count) to ss f.1)
follow_within from to (Some r ∷ ss) (suc i) s e f = follow_within (r.start + r.count) to ss i s e f.1

live_in_same : (ts us : List Term) (k : ℕ) (s : Span) → part us s ≡ part ts s → live_in us k s ≡ live_in ts k s
live_in_same ts us k s e = ap make e
  where
    make : List Term → Live
    make xs = record { id = record { 0 = k }; constraint = record { terms = xs; degree = s.degree }; proof_id = s.proof_id }

-- what is live stays where the terms up to the parts' end stay
pub live_below : (ts us : List Term) (k from to : ℕ) (ss : List (Option Span)) → Follow from to ss → take to us ≡ take to ts → live_from us k ss ≡ live_from ts k ss
live_below ts us k from to [] f e = refl
live_below ts us k from to (None ∷ ss) f e = live_below ts us (k + 1) from to ss f e
live_below ts us k from to (Some s ∷ ss) f e =
    let ih = live_below ts us (k + 1) (s.start + s.count) to ss f.1 e in
    let one = live_in_same ts us k s (part_below ts us s to (follow_le (s.start + s.count) to ss f.1) e) in
    ap (λ (x : Live). x ∷ live_from us (k + 1) ss) one ∙ ap (λ (xs : List Live). live_in ts k s ∷ xs) ih

-- and where the terms from the parts' beginning on stay
pub live_behind : (ts us : List Term) (k from to : ℕ) (ss : List (Option Span)) → Follow from to ss → drop from us ≡ drop from ts → live_from us k ss ≡ live_from ts k ss
live_behind ts us k from to [] f e = refl
live_behind ts us k from to (None ∷ ss) f e = live_behind ts us (k + 1) from to ss f e
live_behind ts us k from to (Some s ∷ ss) f e =
    let m = s.start + s.count in
    let d = m - from in
    let back : from + d ≡ m = omega (arith, f.0) in
    let later : drop m us ≡ drop m ts = sym (ap (λ (n : ℕ). drop n us) back) ∙ sym (drop-drop d from us) ∙ ap (drop d) e ∙ drop-drop d from ts ∙ ap (λ (n : ℕ). drop n ts) back in
    let ih = live_behind ts us (k + 1) m to ss f.1 later in
    let one = live_in_same ts us k s (part_behind ts us s from f.0 e) in
    ap (λ (x : Live). x ∷ live_from us (k + 1) ss) one ∙ ap (λ (xs : List Live). live_in ts k s ∷ xs) ih

-- terms copied down leave those behind where they stood
pub behind_copied : (ts us : List Term) (from to n : ℕ) → to ≤ from → from + n ≤ length ts → us ≡ paste ts to (drop from ts) ((from + n) - from) → drop (from + n) us ≡ drop (from + n) ts
behind_copied ts us from to n h l e =
    let d = from - to in
    let back : (to + n) + d ≡ from + n = omega arith in
    let many : (from + n) - from ≡ n = omega arith in
    let copied : us ≡ paste ts to (drop from ts) n = e ∙ ap (paste ts to (drop from ts)) many in
    let same : drop (to + n) us ≡ drop (to + n) ts = ap (drop (to + n)) copied ∙ drop-paste ts to (drop from ts) n (omega arith) (omega (arith, length-drop from ts)) in
    sym (ap (λ (m : ℕ). drop m us) back) ∙ sym (drop-drop d (to + n) us) ∙ ap (drop d) same ∙ drop-drop d (to + n) ts ∙ ap (λ (m : ℕ). drop m ts) back

-- one step of moving the parts together
pub close_more : (old ts us : List Term) (olds ss : List (Option Span)) (used place to : ℕ) (s t : Span) → place < length ss → used ≤ place → get_or ss place empty_span ≡ Some s → t.start ≡ to
    → t.count ≡ s.count → t.degree ≡ s.degree → t.proof_id ≡ s.proof_id → part us t ≡ part ts s → take to us ≡ take to ts → drop (s.start + s.count) us ≡ drop (s.start + s.count) ts
    → Follow 0 to (take used ss) → Follow to (length ts) (drop place ss) → live_from ts 0 (take used ss) ++ renumbered used (live_from ts place (drop place ss))
    ≡ renumbered 0 (live_from old 0 olds) → live_from us 0 (take (used + 1) (set ss used (Some t)))
    ++ renumbered (used + 1) (live_from us (place + 1) (drop (place + 1) (set ss used (Some t)))) ≡ renumbered 0 (live_from old 0 olds)
close_more old ts us olds ss used place to s t h u e es ec ed ep part-is below behind done rest ih =
    let open-rest : drop place ss ≡ Some s ∷ drop (place + 1) ss = drop_more ss place empty_span h ∙ ap (λ (o : Option Span). o ∷ drop (place + 1) ss) e in
    let follows : Follow to (length ts) (Some s ∷ drop (place + 1) ss) = subst (Follow to (length ts)) open-rest rest in
    let now : take (used + 1) (set ss used (Some t)) ≡ take used ss ++ Some t ∷ [] = take_more_set ss used (Some t) (omega arith) in
    let later : drop (place + 1) (set ss used (Some t)) ≡ drop (place + 1) ss = drop-set-lt (place + 1) ss used (Some t) (omega arith) in
    let front = live_from us 0 (take used ss) in
    let front-is : front ≡ live_from ts 0 (take used ss) = live_below ts us 0 0 to (take used ss) done below in
    let count-is : used ≡ 0 + length (take used ss) = omega (arith, length-take-le used ss (omega arith)) in
    let pushed : live_from us 0 (take used ss ++ Some t ∷ []) ≡ front ++ live_in us used t ∷ [] = live_from-push us 0 (take used ss) t used count-is in
    let moved : live_in us used t ≡ live_in ts used s = same_live part-is ed ep in
    let back : live_from us (place + 1) (drop (place + 1) ss) ≡ live_from ts (place + 1) (drop (place + 1) ss) =
    live_behind ts us (place + 1) (s.start + s.count) (length ts) (drop (place + 1) ss) follows.1 behind in
    let B = renumbered (used + 1) (live_from ts (place + 1) (drop (place + 1) ss)) in
    let first : live_from us 0 (take (used + 1) (set ss used (Some t))) ≡ live_from ts 0 (take used ss) ++ live_in ts used s ∷ [] = ap (live_from us 0) now ∙ pushed
    ∙ ap (λ (x : Live). front ++ x ∷ []) moved ∙ ap (λ (xs : List Live). xs ++ live_in ts used s ∷ []) front-is in
    let second : renumbered (used + 1) (live_from us (place + 1) (drop (place + 1) (set ss used (Some t)))) ≡ B =
    ap (λ (xs : List (Option Span)). renumbered (used + 1) (live_from us (place + 1) xs)) later ∙ ap (renumbered (used + 1)) back in
    ap2 first second ∙ append_assoc (live_from ts 0 (take used ss)) (live_in ts used s ∷ []) B ∙ sym
    (ap (λ (xs : List (Option Span)). live_from ts 0 (take used ss) ++ renumbered used (live_from ts place xs)) open-rest) ∙ ih
  where
    ap2 : {a b c d : List Live} → a ≡ b → c ≡ d → a ++ c ≡ b ++ d
    ap2 {a} {b} {c} {d} p q = ap (λ (xs : List Live). xs ++ c) p ∙ ap (λ (xs : List Live). b ++ xs) q

    same_live : part us t ≡ part ts s → t.degree ≡ s.degree → t.proof_id ≡ s.proof_id → live_in us used t ≡ live_in ts used s
    same_live p d q = ap (λ (xs : List Term). make xs t.degree t.proof_id) p ∙ ap (λ (n : ℕ). make (part ts s) n t.proof_id) d ∙ ap (λ (n : ℕ). make (part ts s) s.degree n) q
      where
        make : List Term → ℕ → ℕ → Live
        make xs degree proof_id = record { id = record { 0 = used }; constraint = record { terms = xs; degree = degree }; proof_id = proof_id }

-- and one that finds no part
pub close_past : (ts : List Term) (ss : List (Option Span)) (used place : ℕ) → place < length ss → get_or ss place empty_span ≡ None
    → renumbered used (live_from ts (place + 1) (drop (place + 1) ss)) ≡ renumbered used (live_from ts place (drop place ss))
close_past ts ss used place h e =
    let open-rest : drop place ss ≡ None ∷ drop (place + 1) ss = drop_more ss place empty_span h ∙ ap (λ (o : Option Span). o ∷ drop (place + 1) ss) e in
    sym (ap (λ (xs : List (Option Span)). renumbered used (live_from ts place xs)) open-rest)

-- renumbering keeps what is in normal form
pub normal_renumbered : (k : ℕ) (es : List Live) → AreNormal es → AreNormal (renumbered k es)
normal_renumbered k [] n = All-nil IsNormalOne
  where
    IsNormalOne : Live → Type 0
    IsNormalOne d = IsNormal d.constraint.terms d.constraint.degree
normal_renumbered k (e ∷ es) n =
    All-cons IsNormalOne (record { id = record { 0 = k }; constraint = e.constraint; proof_id = e.proof_id }) (renumbered (k + 1) es) (All-head IsNormalOne e es n)
    (normal_renumbered (k + 1) es (All-tail IsNormalOne e es n))
  where
    IsNormalOne : Live → Type 0
    IsNormalOne d = IsNormal d.constraint.terms d.constraint.degree

-- where the parts up to one that was read end
pub follow_taken : (to : ℕ) (old ss : List (Option Span)) (n : ℕ) (o : Option Span) (s : Span) → 0 < n → n ≤ length ss → ss ≡ old → o ≡ get_or ss (n - 1) o → o ≡ Some s → Follow 0 to old
    → Follow 0 (s.start + s.count) (take n ss) × (s.start + s.count ≤ to)
follow_taken to old ss n o s h l same read is f =
    let m = n - 1 in
    let back : m + 1 ≡ n = omega arith in
    let here : get_or ss m empty_span ≡ Some s = sym (get_or_read ss m o (omega arith) read empty_span) ∙ is in
    let shape : take n ss ≡ take m ss ++ Some s ∷ [] = sym (ap (λ (k : ℕ). take k ss) back) ∙ take_more ss m empty_span (omega arith) ∙ ap (λ (p : Option Span). take m ss ++ p ∷ []) here in
    let taken : Follow 0 to (take m ss ++ Some s ∷ []) = subst (Follow 0 to) shape (follow_take 0 to ss n (subst (Follow 0 to) (sym same) f)) in
    let last = follow_last 0 to (take m ss) s taken in
    (subst (Follow 0 (s.start + s.count)) (sym shape) last.0, last.1)

-- adding terms at the end, and the part that they are
pub added_live : (ts more us : List Term) (ss qs : List (Option Span)) (s : Span) (c : Linear) (k : ℕ) → Follow 0 (length ts) ss → us ≡ ts ++ more → qs ≡ ss ++ Some s ∷ [] → s.start ≡ length ts
    → s.count ≡ length more → more ≡ c.terms → s.degree ≡ c.degree → k ≡ length ss → live_from us 0 qs ≡ live_from ts 0 ss
    ++ record { id = record { 0 = k }; constraint = c; proof_id = s.proof_id } ∷ []
added_live ts more us ss qs s c k f eu eq es ec et ed ek =
    let front : take (length ts) us ≡ take (length ts) ts = ap (take (length ts)) eu ∙ take_at ts more (length ts) refl ∙ sym (take_all (length ts) ts (omega arith)) in
    let rest : drop s.start us ≡ more = ap (drop s.start) eu ∙ drop_at ts more s.start (sym es) in
    let terms : part us s ≡ c.terms = ap (take s.count) rest ∙ take_all s.count more (omega (arith, ec)) ∙ et in
    let last : live_in us k s ≡ record { id = record { 0 = k }; constraint = c; proof_id = s.proof_id } = ap (λ (xs : List Term). make xs s.degree) terms ∙ ap (λ (n : ℕ). make c.terms n) ed in
    ap (live_from us 0) eq ∙ live_from-push us 0 ss s k (omega (arith, ek)) ∙ ap (λ (xs : List Live). xs ++ live_in us k s ∷ []) (live_below ts us 0 0 (length ts) ss f front)
    ∙ ap (λ (x : Live). live_from ts 0 ss ++ x ∷ []) last
  where
    make : List Term → ℕ → Live
    make xs n = record { id = record { 0 = k }; constraint = record { terms = xs; degree = n }; proof_id = s.proof_id }

pub added_store : (ts more us : List Term) (ss qs : List (Option Span)) (s : Span) (c : Linear) → IsStore ts ss → us ≡ ts ++ more → qs ≡ ss ++ Some s ∷ [] → s.start ≡ length ts
    → s.count ≡ length more → more ≡ c.terms → s.degree ≡ c.degree → IsNormal c.terms c.degree → IsStore us qs
added_store ts more us ss qs s c store eu eq es ec et ed n =
    let long : s.start + s.count ≡ length us = omega (arith, ap length eu, length-append ts more, es, ec) in
    let f : Follow 0 (s.start + s.count) (ss ++ Some s ∷ []) = follow_push 0 (length ts) ss s (omega (arith, es)) store.follow in
    let live = added_live ts more us ss qs s c (length ss) store.follow eu eq es ec et ed refl in
    record {
      follow = subst (λ (xs : List (Option Span)). Follow 0 (length us) xs) (sym eq) (subst (λ (m : ℕ). Follow 0 m (ss ++ Some s ∷ [])) long f);
      normal = All-same OfNormal (live_from us 0 qs) (live_from ts 0 ss ++ record { id = record { 0 = length ss }; constraint = c; proof_id = s.proof_id } ∷ []) live
          (All-push OfNormal (live_from ts 0 ss) (record { id = record { 0 = length ss }; constraint = c; proof_id = s.proof_id }) store.normal n);
    }
  where
    OfNormal : Live → Type 0
    OfNormal d = IsNormal d.constraint.terms d.constraint.degree

-- taking a part away, and the terms behind the last one
pub removed_live : (ts us : List Term) (ss rs : List (Option Span)) (c : ConId) (end : ℕ) → Follow 0 end rs → ((vs : List Term) → live_from vs 0 rs ≡ live_from vs 0 (set ss c.0 empty_span))
    → us ≡ take end ts → live_from us 0 rs ≡ without c (live_from ts 0 ss)
removed_live ts us ss rs c end f same eu =
    let front : take end us ≡ take end ts = ap (take end) eu ∙ take-take end end ts (omega arith) in
    live_below ts us 0 0 end rs f front ∙ same ts ∙ live_from-set_none ts 0 ss c c.0 (sym (zero-add c.0))

pub removed_store : (ts us : List Term) (ss rs : List (Option Span)) (c : ConId) (end : ℕ) → IsStore ts ss → Follow 0 end rs
    → ((vs : List Term) → live_from vs 0 rs ≡ live_from vs 0 (set ss c.0 empty_span)) → end ≤ length ts → us ≡ take end ts → IsStore us rs
removed_store ts us ss rs c end store f same within eu =
    let long : end ≡ length us = sym (ap length eu ∙ length-take-le end ts within) in
    let live = removed_live ts us ss rs c end f same eu in
    record {
      follow = subst (λ (m : ℕ). Follow 0 m rs) long f;
      normal = All-same OfNormal (live_from us 0 rs) (without c (live_from ts 0 ss)) live (All-filter (λ (e : Live). not (eqb e.id.0 c.0)) OfNormal (live_from ts 0 ss) store.normal);
    }
  where
    OfNormal : Live → Type 0
    OfNormal d = IsNormal d.constraint.terms d.constraint.degree

-- once all parts are moved
pub closed_live : (old ts us : List Term) (olds ss rs : List (Option Span)) (used place end : ℕ) → length ss ≤ place → Follow 0 end (take used ss)
    → live_from ts 0 (take used ss) ++ renumbered used (live_from ts place (drop place ss)) ≡ renumbered 0 (live_from old 0 olds) → us ≡ take end ts → rs ≡ take used ss
    → live_from us 0 rs ≡ renumbered 0 (live_from old 0 olds)
closed_live old ts us olds ss rs used place end h f live eu er =
    let front : take end us ≡ take end ts = ap (take end) eu ∙ take-take end end ts (omega arith) in
    let none : renumbered used (live_from ts place (drop place ss)) ≡ [] = ap (λ (xs : List (Option Span)). renumbered used (live_from ts place xs)) (drop_all place ss h) in
    ap (live_from us 0) er ∙ live_below ts us 0 0 end (take used ss) f front ∙ sym (append-nil (live_from ts 0 (take used ss)))
    ∙ sym (ap (λ (xs : List Live). live_from ts 0 (take used ss) ++ xs) none) ∙ live

-- a part that was read ends within
pub read_within : (from to : ℕ) (ss : List (Option Span)) (i : ℕ) (o : Option Span) (s : Span) → i < length ss → o ≡ get_or ss i o → o ≡ Some s → Follow from to (drop i ss) → (from ≤ s.start)
    × Follow (s.start + s.count) to (drop (i + 1) ss)
read_within from to ss i o s h read is f =
    let here : get_or ss i empty_span ≡ Some s = sym (get_or_read ss i o h read empty_span) ∙ is in
    let shape : drop i ss ≡ Some s ∷ drop (i + 1) ss = drop_more ss i empty_span h ∙ ap (λ (p : Option Span). p ∷ drop (i + 1) ss) here in
    subst (Follow from to) shape f

-- the front once a part is moved to its end
pub close_front : (ss : List (Option Span)) (used end n : ℕ) (t : Span) → used < length ss → t.start ≡ end → t.count ≡ n → Follow 0 end (take used ss)
    → Follow 0 (end + n) (take (used + 1) (set ss used (Some t)))
close_front ss used end n t h es ec f =
    let shape : take (used + 1) (set ss used (Some t)) ≡ take used ss ++ Some t ∷ [] = take_more_set ss used (Some t) h in
    let at : t.start + t.count ≡ end + n = omega (arith, es, ec) in
    subst (Follow 0 (end + n)) (sym shape) (subst (λ (m : ℕ). Follow 0 m (take used ss ++ Some t ∷ [])) at (follow_push 0 end (take used ss) t (omega (arith, es)) f))

-- and what is left behind it
pub close_rest : (ss : List (Option Span)) (used place end to more : ℕ) (s t : Span) → used ≤ place → end ≤ s.start → to ≡ more → Follow (s.start + s.count) to (drop (place + 1) ss)
    → Follow (end + s.count) more (drop (place + 1) (set ss used (Some t)))
close_rest ss used place end to more s t u h e f =
    let later : drop (place + 1) (set ss used (Some t)) ≡ drop (place + 1) ss = drop-set-lt (place + 1) ss used (Some t) (omega arith) in
    subst (Follow (end + s.count) more) (sym later) (subst (λ (m : ℕ). Follow (end + s.count) m (drop (place + 1) ss)) e
    (follow_earlier (s.start + s.count) (end + s.count) to (drop (place + 1) ss) (omega arith) f))
