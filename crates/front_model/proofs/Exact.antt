-- An accepted front is the front of its specification.
use Rattle.std.proofs.Common.{◌≡◌, ℕ, zero, suc, ◌+◌, ◌<◌, Bool, List, [], ◌∷◌, ◌++◌, length, get_or, refl, sym, ap, ◌∙◌, subst, arith, ◌⊎◌, inl, inr}
use Rattle.std.specs.Prelude.{All, Contains}
use Rattle.std.proofs.lemmas.Bool.{cases_eq}
use Rattle.std.proofs.lemmas.List.{length-map, get_or-map, get_or_default}
use Rattle.std.proofs.lemmas.List.Elements.{All-weaker, Contains-get_or}
use Rattle.std.proofs.lemmas.List.FromFn.{length-map-range_with_len}
use Rattle.pb_rules.specs.declared.Term.{Term}
use Rattle.pb_rules.specs.Linear.{Linear, Holds, IsModel}
use Rattle.pb_rules.specs.Frames.{Line, derived, cover, base_of, blocks_by, context_of}
use Rattle.pb_rules.proofs.Closed.{models_front, models_back}
use Rattle.pb_rules.proofs.Given.{given_sound, under_holds}
use Rattle.pb_rules.proofs.Sound.{line_sound}
use Rattle.spec_model.specs.Spec.{SpecValue, Bits, bits_of}
use Rattle.spec_model.specs.Rules.{IsValid}
use Rattle.spec_model.specs.Vectors.{vector_at, vector_of, IsAtMost, Dominates, IsInFront}
use Rattle.spec_model.specs.WellFormed.{IsWellFormed}
use Rattle.spec_model.proofs.Vectors.{at_most_itself, at_most_through, at_most_both, at_most_or_not, same_vector}
use Rattle.spec_model.proofs.Joined.{All-left}
use Rattle.encode_model.specs.Block.{cover_frame}
use Rattle.encode_laws.proofs.Laws.{valid_are_models}
use Rattle.block_encode.specs.Laws.{OfCover, LeavesOpen}
use Rattle.block_encode.proofs.Extending.{all_extend}
use Rattle.result_text.specs.Answers.{EntryValue}
use Rattle.result_text.specs.Fronts.{FrontValue}
use Rattle.front_model.specs.Fronts.{vector_in, vectors_of, IsEntry, IsClaim, IsFrontOf}
use Rattle.front_model.specs.Proofs.{HasBelow, MayStand, IsClash, Refute}
use Rattle.front_model.specs.Laws.{ClaimIsFront, AcceptedIsFront, AcceptedTextIsFront}

-- the vector of a design has a number for each objective
pub vector_long : (s : SpecValue) (f : Bits) → length (vector_of s f) ≡ length s.objectives
vector_long s f = length-map-range_with_len (vector_at s f) 0 (length s.objectives)

-- and so has that of an entry
pub entry_long : (s : SpecValue) (e : EntryValue) → IsEntry s e → length e.vector ≡ length s.objectives
entry_long s e h = sym (ap length h.stated) ∙ vector_long s (bits_of e.design)

-- ---- some vector of a list is at most a given one, or none is

-- what a list has, it has with one more in front
pub before_all : (u : List ℕ) (us : List (List ℕ)) (w : List ℕ) → Contains us w → Contains (u ∷ us) w
before_all u us w h =
    let e : suc h.0 ≡ h.0 + 1 = omega arith in
    (h.0 + 1, omega (arith, h.1), subst (λ (n : ℕ). get_or (u ∷ us) n w ≡ w) e h.2)

-- an entry of a list is its first, or one of the rest
pub split : (u : List ℕ) (us : List (List ℕ)) (w : List ℕ) → Contains (u ∷ us) w → (u ≡ w) ⊎ Contains us w
split u us w (zero, l, e) = inl e
split u us w (suc k, l, e) = inr (k, omega (arith, l), e)

-- some vector of a list is at most the given one, or none is
pub below_or_none : (us : List (List ℕ)) (v : List ℕ) → HasBelow us v ⊎ (¬ HasBelow us v)
below_or_none [] v = inr (λ h. (let l = h.there.1 in absurd (omega arith)))
below_or_none (u ∷ us) v =
    elim (at_most_or_not u v) [
      | inl h ↦ inl (record { vector = u; there = (0, omega arith, refl); below = h })
      | inr h ↦ elim (below_or_none us v) [
        | inl b ↦ inl (record { vector = b.vector; there = before_all u us b.vector b.there; below = b.below })
        | inr n ↦ inr (λ g. elim (split u us g.vector g.there) [
          | inl e ↦ h (subst (λ (w : List ℕ). IsAtMost w v) (sym e) g.below)
          | inr c ↦ n (record { vector = g.vector; there = c; below = g.below })
        ])
      ]
    ]

-- ---- what lines that refute leave

-- a cover is not at most a vector that no vector of the front is at most, which is that of a model
leaves : (s : SpecValue) (us : List (List ℕ)) (f g : Bits) → vector_of s f ≡ vector_of s g → ¬ HasBelow us (vector_of s g) → (l : Line) → MayStand s us l → OfCover (LeavesOpen s f) l
leaves s us f g same none (derived ops) h = tt
leaves s us f g same none (cover v) h = record {
  one_each = h.one_each;
  within = h.within;
  uncovered = λ le. none (record {
    vector = h.dominated.vector;
    there = h.dominated.there;
    below = at_most_through h.dominated.vector v (vector_of s g) h.dominated.below (subst (λ (u : List ℕ). IsAtMost v u) same le);
  });
}

empty_clash : (v : ℕ → Bool) (c : Linear) → IsClash c → Holds v c → ⊥
empty_clash v c clash holds =
    let none : Holds v (record { terms = []; degree = c.degree }) = subst (λ (ts : List Term). Holds v (record { terms = ts; degree = c.degree })) clash.no_terms holds in
    let asks = clash.asks in
    absurd (omega arith)

-- each valid design's vector has one of the front at most it
pub refuted : (s : SpecValue) (us : List (List ℕ)) (ls : List Line) (x : Bits) → IsWellFormed s → Refute s us ls → IsValid s x → ¬ HasBelow us (vector_of s x) → ⊥
refuted s us ls x wf r valid none =
    let one = valid_are_models s x wf valid in
    let whole : All (MayStand s us) (r.early ++ derived r.last ∷ []) = subst (λ (ks : List Line). All (MayStand s us) ks) r.whole r.covers in
    let early : All (MayStand s us) r.early = All-left (MayStand s us) r.early (derived r.last ∷ []) whole in
    let open_each : All (OfCover (LeavesOpen s one.model)) r.early = All-weaker (MayStand s us) (OfCover (LeavesOpen s one.model))
    (leaves s us one.model x (same_vector s one.model x one.only.same) none) r.early early in
    let made = all_extend s r.early one.model wf one.only.holds open_each in
    let f = cover_frame s in
    let given : IsModel r.before.constraints made.values = given_sound made.values f (base_of f) r.before r.early r.legal (models_front made.values f.base (blocks_by f r.early) made.model)
    (models_back made.values f.base (blocks_by f r.early) made.model) in
    empty_clash made.values r.clash r.clashes (line_sound made.values (context_of r.before) r.last r.clash (under_holds (Holds made.values) r.before.constraints given) r.gives)

pub reached : (s : SpecValue) (us : List (List ℕ)) (ls : List Line) (x : Bits) → IsWellFormed s → Refute s us ls → IsValid s x → HasBelow us (vector_of s x)
reached s us ls x wf r valid =
    elim (below_or_none us (vector_of s x)) [
      | inl h ↦ h
      | inr none ↦ absurd (refuted s us ls x wf r valid none)
    ]

-- ---- the front

module _ (s : SpecValue) (front : FrontValue) (claim : IsClaim s front) (below_each : (x : Bits) → IsValid s x → HasBelow (vectors_of front) (vector_of s x)) where
  abbrev us : List (List ℕ)
  us = vectors_of front

  -- a vector of the front is an entry's
  entry_of : (w : List ℕ) → Contains us w → (e : EntryValue) × IsEntry s e × (e.vector ≡ w)
  entry_of w h =
      let none : EntryValue = record { design = []; vector = w } in
      let l : h.0 < length front.entries = omega (arith, h.1, length-map front.entries vector_in) in
      let e : EntryValue = get_or front.entries h.0 none in
      (e, claim.entries h.0 none l, sym (get_or-map vector_in front.entries h.0 none w l) ∙ h.2)

  long : (w : List ℕ) → Contains us w → length w ≡ length s.objectives
  long w h =
      let x = entry_of w h in
      sym (ap length (x.1.stated ∙ x.2)) ∙ vector_long s (bits_of x.0.design)

  -- of two vectors of the front one is at most the other only where they are the same
  apart : (v w : List ℕ) → Contains us v → Contains us w → IsAtMost v w → v ≡ w
  apart v w a b le =
      elim (cases_eq a.0 b.0) [
        | inl e ↦ sym a.2 ∙ ap (λ (n : ℕ). get_or us n v) e ∙ same_place b.0 b.1 ∙ b.2
        | inr n ↦ absurd (claim.apart a.0 b.0 v a.1 b.1 n (subst (λ (x : List ℕ). IsAtMost x (get_or us b.0 v)) (sym a.2) (subst (λ (y : List ℕ). IsAtMost v y) (sym (same_place b.0 b.1 ∙ b.2)) le)))
      ]
    where
      same_place : (k : ℕ) → k < length us → get_or us k v ≡ get_or us k w
      same_place k l = get_or_default us k v w l

  only_one : (w : List ℕ) → Contains us w → IsInFront s w
  only_one w h =
      let x = entry_of w h in
      record {
        design = bits_of x.0.design;
        valid = x.1.valid;
        vector = x.1.stated ∙ x.2;
        undominated = λ g valid d. (let b = below_each g valid in
            let same : b.vector ≡ w = apart b.vector w b.there h (at_most_through b.vector (vector_of s g) w b.below d.0) in
            let back : IsAtMost w (vector_of s g) = subst (λ (y : List ℕ). IsAtMost y (vector_of s g)) same b.below in
            d.1 (at_most_both (vector_of s g) w (vector_long s g ∙ sym (long w h)) d.0 back));
      }

  each_one : (w : List ℕ) → IsInFront s w → Contains us w
  each_one w h =
      let b = below_each h.design h.valid in
      let below : IsAtMost b.vector w = subst (λ (y : List ℕ). IsAtMost b.vector y) h.vector b.below in
      let x = entry_of b.vector b.there in
      let vector : vector_of s (bits_of x.0.design) ≡ b.vector = x.1.stated ∙ x.2 in
      elim (at_most_or_not w b.vector) [
        | inl le ↦ subst (λ (y : List ℕ). Contains us y) (at_most_both b.vector w (long b.vector b.there ∙ sym (sym (ap length h.vector) ∙ vector_long s h.design)) below le) b.there
        | inr not ↦ absurd (h.undominated (bits_of x.0.design) x.1.valid (subst (λ (y : List ℕ). Dominates y w) (sym vector)
            (below, λ e. not (subst (λ (y : List ℕ). IsAtMost w y) (sym e) (at_most_itself w)))))
      ]

  pub exact : IsFrontOf s front
  exact = record {
    entries = claim.entries;
    only = λ k d l. only_one (get_or us k d) (Contains-get_or us k d l);
    each = each_one;
    once = λ i j d lt l e. (let many : j < length us = omega (arith, l, length-map front.entries vector_in) in
        claim.apart i j d (omega arith) many (λ q. absurd (omega (arith, q, lt))) (subst (λ (y : List ℕ). IsAtMost (get_or us i d) y) e (at_most_itself (get_or us i d))));
  }

-- a claim that has a vector at most that of each valid design is the front
pub claim_is_front : ClaimIsFront
claim_is_front s front claim below_each = exact s front claim below_each

pub accepted_is_front : AcceptedIsFront
accepted_is_front s front text wf a = exact s front a.claim (λ x. reached s (vectors_of front) a.proof.lines x wf a.proof.refute)

pub accepted_text_is_front : AcceptedTextIsFront
accepted_text_is_front s front_bytes proof_bytes wf a = accepted_is_front s a.front proof_bytes wf a.accepted
