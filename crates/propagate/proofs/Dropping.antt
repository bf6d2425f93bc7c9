-- What taking out one id after another leaves attached.
use Rattle.std.proofs.Common.{◌≡◌, ◌≢◌, ℕ, ◌+◌, ◌<◌, None, List, [], ◌∷◌, ◌++◌, length, get_or, take, refl, sym, ap, ◌∙◌, subst, arith, inl, inr, All, ◌⊎◌}
use Rattle.std.proofs.lemmas.Bool.{cases_eq}
use Rattle.std.proofs.lemmas.List.{take_more, get_or_append_left, length_push}
use Rattle.std.proofs.Math.Seq.{get_or-append_seam}
use Rattle.std.proofs.lemmas.List.Elements.{All-nil, All-cons, All-push, All-contains, Contains-append_right}
use Rattle.std.specs.Prelude.{Contains}
use Rattle.pb_constraints.specs.declared.ConId.{ConId}
use Rattle.propagate.specs.Attached.{Attached, attached_at, ChangesOnly, Drops}
use Rattle.propagate.proofs.Attaching.{same_id}

-- nothing was dropped yet
pub drops_none : (held : List Attached) (ids : List ConId) → Drops (take 0 ids) held held
drops_none held ids = record { gone = λ k d h. absurd (omega arith); others = λ d n. refl }

at_more : (ids : List ConId) (i : ℕ) (c : ConId) → i < length ids → c ≡ get_or ids i c → take (i + 1) ids ≡ take i ids ++ c ∷ []
at_more ids i c h is = take_more ids i c h ∙ ap (λ (x : ConId). take i ids ++ x ∷ []) (sym is)

-- what holds of a list with one more holds of the list and of that one
All-init : (P : ConId → Type 0) (ids : List ConId) (c : ConId) → All P (ids ++ c ∷ []) → All P ids
All-init P ids c a k d h = (let n = length_push ids c in subst P (get_or_append_left ids (c ∷ []) d k h) (a k d (omega (arith, n))))

All-last : (P : ConId → Type 0) (ids : List ConId) (c : ConId) → All P (ids ++ c ∷ []) → P c
All-last P ids c a = (let n = length_push ids c in subst P (get_or-append_seam ids c [] c) (a (length ids) c (omega (arith, n))))

-- an id that was dropped before stays so
stays_gone : (mid new : List Attached) (c d : ConId) → ChangesOnly mid new c None → attached_at mid d ≡ None → attached_at new d ≡ None
stays_gone mid new c d h p = elim (cases_eq d.0 c.0) [
  | inl q ↦ (let P : ConId → Type 0 = λ x. attached_at new x ≡ None in subst P (sym (same_id d c q)) h.here)
  | inr n ↦ (h.others d (λ z. n (ap (λ (x : ConId). x.0) z)) ∙ p)
]

pub drops_more : (ids : List ConId) (i : ℕ) (c : ConId) (old mid new : List Attached) → i < length ids → c ≡ get_or ids i c → Drops (take i ids) old mid → ChangesOnly mid new c None
    → Drops (take (i + 1) ids) old new
drops_more ids i c old mid new h is p e =
    let P : List ConId → Type 0 = λ cs. Drops cs old new in
    let N : ConId → Type 0 = λ x. attached_at new x ≡ None in
    subst P (sym (at_more ids i c h is)) (record {
      gone = All-push N (take i ids) c (λ k d l. stays_gone mid new c (get_or (take i ids) k d) e (p.gone k d l)) e.here;
      others = λ d n. (
          let D : ConId → Type 0 = λ x. x ≢ d in
          let last : c ≢ d = All-last D (take i ids) c n in
          e.others d (λ z. last (sym z)) ∙ p.others d (All-init D (take i ids) c n));
    })

-- an id is one of a list, or differs from each
pub among : (ids : List ConId) (d : ConId) → Contains ids d ⊎ All (λ (c : ConId). c ≢ d) ids
among [] d = inr (All-nil (λ (c : ConId). c ≢ d))
among (c ∷ ids) d = elim (cases_eq c.0 d.0) [
  | inl e ↦ inl (0, omega arith, same_id c d e)
  | inr n ↦ elim (among ids d) [
    | inl w ↦ inl (Contains-append_right (c ∷ []) ids d w)
    | inr a ↦ inr (All-cons (λ (x : ConId). x ≢ d) c ids (λ z. n (ap (λ (x : ConId). x.0) z)) a)
  ]
]

-- a constraint that is dropped isn't attached
pub drops_gone : (ids : List ConId) (old new : List Attached) (d : ConId) → Drops ids old new → Contains ids d → attached_at new d ≡ None
drops_gone ids old new d p w = All-contains (λ (c : ConId). attached_at new c ≡ None) ids d p.gone w
