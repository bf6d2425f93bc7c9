-- From models of the encoding and the blocks to the next found design.
use Rattle.std.proofs.Common.{◌≡◌, ℕ, ◌+◌, ◌<◌, ◌≤◌, Bool, List, [], ◌∷◌, ◌++◌, length, get_or, take, refl, sym, ◌∙◌, subst, arith, inl, inr}
use Rattle.std.specs.Prelude.{All, Contains}
use Rattle.std.proofs.lemmas.Bool.{cases_lt}
use Rattle.std.proofs.lemmas.List.{length-replicate, length_push, get_or_push, get_or_append_left, take-append-le, take_all}
use Rattle.std.proofs.lemmas.List.Elements.{All-cons, All-nil}
use Rattle.pb_rules.specs.Literal.{Literal}
use Rattle.pb_rules.specs.Linear.{Linear, IsModel, HasNoModel}
use Rattle.pb_rules.specs.Order.{IsFirstModel}
use Rattle.pb_rules.specs.Frames.{Line, derived, cover, blocks_from}
use Rattle.pb_rules.proofs.Closed.{models_front, models_back}
use Rattle.spec_model.specs.Spec.{SpecValue, Bits, bits_of, design_variables}
use Rattle.spec_model.specs.Vectors.{vector_of, IsAtMost}
use Rattle.spec_model.specs.Genotypes.{IsSameDesign, IsBefore, natural, plain_gene}
use Rattle.spec_model.specs.WellFormed.{IsWellFormed}
use Rattle.spec_model.proofs.Along.{IsValid-along}
use Rattle.encode_model.specs.Encoding.{encoding}
use Rattle.encode_laws.proofs.Laws.{valid_of_model, valid_are_models}
use Rattle.encode_model.specs.Block.{block_of, cover_frame}
use Rattle.block_encode.specs.Laws.{OfCover, LeavesOpen}
use Rattle.block_encode.proofs.Meaning.{models_are_uncovered}
use Rattle.block_encode.proofs.Extending.{all_extend}
use Rattle.genotype.specs.Order.{IsOrderOf}
use Rattle.genotype.proofs.Firsts.{first_along}
use Rattle.result_text.specs.Answers.{EntryValue}
use Rattle.front_model.specs.Proofs.{HasBelow, MayCover}
use Rattle.spec_model.proofs.Vectors.{at_most_itself, same_vector}
use Rattle.spec_model.proofs.Numbers.{design_variables-le}
use Rattle.front_model.proofs.Exact.{before_all, split}
use Rattle.front_lists.specs.Lists.{IsLeft, IsNext, FoundPrefix, FoundWhole, vectors_in, covers_of}
use Rattle.front_lists.specs.Laws.{searched, FirstModelIsNext, NoModelIsWhole, NextIsFound}
use Rattle.front_lists.proofs.Refuting.{may_cover}

-- ---- a model of the blocks is of a design that no cover covers

no_cover_below : (s : SpecValue) (m : Bits) (ls : List Line) (b : ℕ) → ((v : List ℕ) → Contains (covers_of ls) v → length v ≡ length s.objectives) → IsModel (blocks_from (cover_frame s) b ls) m
    → (v : List ℕ) → Contains (covers_of ls) v → ¬ IsAtMost v (vector_of s m)
no_cover_below s m [] b long model v c = absurd (let l = c.1 in omega arith)
no_cover_below s m (derived ops ∷ ls) b long model v c = no_cover_below s m ls b long model v c
no_cover_below s m (cover u ∷ ls) b long model v c =
    let block : List Linear = block_of s (b + 1) u in
    let rest : List Linear = blocks_from (cover_frame s) (b + 1) ls in
    elim (split u (covers_of ls) v c) [
      | inl e ↦ subst (λ (w : List ℕ). ¬ IsAtMost w (vector_of s m)) e (models_are_uncovered s (b + 1) u m (long u (0, omega arith, refl)) (models_front m block rest model))
      | inr later ↦ no_cover_below s m ls (b + 1) (λ w k. long w (before_all u (covers_of ls) w k)) (models_back m block rest model) v later
    ]

-- ---- the search

module _ (s : SpecValue) (found : List EntryValue) (ls : List Line) (wf : IsWellFormed s) (p : FoundPrefix s found) (covers : covers_of ls ≡ vectors_in found) where
  abbrev us : List (List ℕ)
  us = vectors_in found

  -- a found vector may be covered, by itself
  itself : (v : List ℕ) → Contains us v → MayCover s us v
  itself v c = may_cover s found us v p c (record { vector = v; there = c; below = at_most_itself v })

  found_of : (v : List ℕ) → Contains (covers_of ls) v → Contains us v
  found_of v c = subst (λ (ws : List (List ℕ)). Contains ws v) covers c

  -- the design of a model is left
  pub model_is_left : (m : Bits) → IsModel (searched s ls) m → IsLeft s us m
  model_is_left m model = record {
    valid = valid_of_model s m wf (models_front m (encoding s) (blocks_from (cover_frame s) 0 ls) model);
    uncovered = λ h. no_cover_below s m ls 0 (λ v c. (itself v (found_of v c)).one_each) (models_back m (encoding s) (blocks_from (cover_frame s) 0 ls) model) h.vector
        (subst (λ (ws : List (List ℕ)). Contains ws h.vector) (sym covers) h.there) h.below;
  }

  -- no cover covers a design that is left
  all_leave : (f g : Bits) → vector_of s f ≡ vector_of s g → ¬ HasBelow us (vector_of s g) → All (OfCover (LeavesOpen s f)) ls
  all_leave f g same none = go ls (λ v c. found_of v c)
    where
      go : (ms : List Line) → ((v : List ℕ) → Contains (covers_of ms) v → Contains us v) → All (OfCover (LeavesOpen s f)) ms
      go [] h = All-nil (OfCover (LeavesOpen s f))
      go (derived ops ∷ ms) h = All-cons (OfCover (LeavesOpen s f)) (derived ops) ms tt (go ms h)
      go (cover v ∷ ms) h =
          let c : Contains us v = h v (0, omega arith, refl) in
          let may = itself v c in
          All-cons (OfCover (LeavesOpen s f)) (cover v) ms (record {
            one_each = may.one_each;
            within = may.within;
            uncovered = λ le. none (record { vector = v; there = c; below = subst (λ (u : List ℕ). IsAtMost v u) same le });
          }) (go ms (λ w k. h w (before_all v (covers_of ms) w k)))

  -- a design that is left is the design of a model
  pub left_has_model : (g : Bits) → IsLeft s us g → (m : Bits) × IsModel (searched s ls) m × IsSameDesign s m g
  left_has_model g left =
      let one = valid_are_models s g wf left.valid in
      let r = all_extend s ls one.model wf one.only.holds (all_leave one.model g (same_vector s one.model g one.only.same) left.uncovered) in
      (r.values, r.model, λ v l. r.agree v (inl (omega (arith, l, design_variables-le s))) ∙ one.only.same v l)

  -- what is left, of a design that is given in two ways
  left_along : (f g : Bits) → IsSameDesign s f g → IsLeft s us f → IsLeft s us g
  left_along f g h left = record {
    valid = IsValid-along s f g h left.valid;
    uncovered = subst (λ (u : List ℕ). ¬ HasBelow us u) (same_vector s f g h) left.uncovered;
  }

  natural_long : length (natural (design_variables s)) ≡ design_variables s
  natural_long = length-replicate (design_variables s) plain_gene

  before_along : (f g x y : Bits) → IsSameDesign s f x → IsSameDesign s g y → IsBefore (natural (design_variables s)) f g → IsBefore (natural (design_variables s)) x y
  before_along f g x y fx gy b =
      let at : b.variable < design_variables s = omega (arith, b.in_range, natural_long) in
      record {
        variable = b.variable;
        in_range = b.in_range;
        phase = sym (fx b.variable at) ∙ b.phase;
        differ = λ e. b.differ (gy b.variable at ∙ (e ∙ sym (fx b.variable at)));
        same = λ w l stands. (let k : w < design_variables s = omega (arith, l, natural_long) in sym (fx w k) ∙ (b.same w l stands ∙ gy w k));
      }

  pub first_is_next : (n : ℕ) (order : List Literal) (m : Bits) (design : List Bool) → design_variables s ≤ n → IsOrderOf (natural (design_variables s)) n order
      → IsFirstModel (searched s ls) order m → length design ≡ design_variables s → IsSameDesign s m (bits_of design)
      → IsNext s us (record { design = design; vector = vector_of s (bits_of design) })
  first_is_next n order m design few o first len same = record {
    one_each = len;
    stated = refl;
    first = record {
      meets = left_along m (bits_of design) same (model_is_left m first.model);
      first = λ g left.
          (let x = left_has_model g left in
          elim (first_along (natural (design_variables s)) n order m x.0 o (omega (arith, few, natural_long)) (first.first x.0 x.1)) [
            | inl agree ↦ inl (λ v l. (let k : v < length (natural (design_variables s)) = omega (arith, l, natural_long) in sym (same v l) ∙ (agree v k ∙ x.2 v l)))
            | inr b ↦ inr (before_along m x.0 (bits_of design) g same x.2 b)
          ]);
    };
  }

  pub none_is_whole : HasNoModel (searched s ls) → FoundWhole s found
  none_is_whole none = record { prefix = p; none_left = λ g left. (let x = left_has_model g left in none x.0 x.1) }

-- the first model, cut to the design, is what is found next
pub first_model_is_next : FirstModelIsNext
first_model_is_next s found ls n order m design wf p covers few o first len same = first_is_next s found ls wf p covers n order m design few o first len same

-- where there is no model the found list is whole
pub no_model_is_whole : NoModelIsWhole
no_model_is_whole s found ls wf p covers none = none_is_whole s found ls wf p covers none

-- ---- one found entry more

-- with what is found next, a found list is one still
pub next_is_found : NextIsFound
next_is_found s found e p next i d l =
    let long = length_push found e in
    elim (cases_lt i (length found)) [
      | inl low ↦
          let kept : take i (found ++ e ∷ []) ≡ take i found = take-append-le i found (e ∷ []) (omega (arith, low)) in
          let read : get_or (found ++ e ∷ []) i d ≡ get_or found i d = get_or_append_left found (e ∷ []) d i low in
          subst (λ (es : List EntryValue). IsNext s (vectors_in es) (get_or (found ++ e ∷ []) i d)) (sym kept) (subst (IsNext s (vectors_in (take i found))) (sym read) (p i d low))
      | inr high ↦
          let here : i ≡ length found = omega (arith, l, long, high) in
          let kept : take i (found ++ e ∷ []) ≡ found = take-append-le i found (e ∷ []) (omega (arith, here)) ∙ take_all i found (omega (arith, here)) in
          let read : get_or (found ++ e ∷ []) i d ≡ e = get_or_push found e d i (sym here) in
          subst (λ (es : List EntryValue). IsNext s (vectors_in es) (get_or (found ++ e ∷ []) i d)) (sym kept) (subst (IsNext s (vectors_in found)) (sym read) next)
    ]
